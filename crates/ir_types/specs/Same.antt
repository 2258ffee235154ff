-- Equality of nodes, as a test.
use Rattle.std.specs.Prelude.{ℕ, Bool, true, false, ◌==◌, ◌&&◌}
use Rattle.std.specs.Bool.{beq}
use Rattle.std.specs.Option.{option_eq}
use Rattle.std.specs.Ordering.{int_eq}
use Rattle.std.specs.Cmp.Lexicographic.{pointwise}
use Rattle.ir_types.specs.declared.node.Sign.{Sign}
use Rattle.ir_types.specs.declared.node.Sign.TheVariants.{Signless, Signed, Unsigned}
use Rattle.ir_types.specs.declared.node.TypeNode.{TypeNode}
use Rattle.ir_types.specs.declared.node.TypeNode.TheVariants as type
use Rattle.ir_types.specs.declared.node.AttrNode.{AttrNode}
use Rattle.ir_types.specs.declared.node.AttrNode.TheVariants as attr

abbrev pub same_sign : Sign → Sign → Bool
same_sign Signless Signless = true
same_sign Signed Signed = true
same_sign Unsigned Unsigned = true
same_sign _ _ = false

abbrev pub same_entry : ℕ × ℕ → ℕ × ℕ → Bool
same_entry a b = (a.0 == b.0) && (a.1 == b.1)

-- types are equal if their kinds and all their components are
unfoldable pub same_type : TypeNode → TypeNode → Bool
same_type (type.Int s v) (type.Int t w) = same_sign s t && (v == w)
same_type type.Index type.Index = true
same_type (type.Func is os) (type.Func js ps) = pointwise ◌==◌ is js && pointwise ◌==◌ os ps
same_type (type.Memref ds e) (type.Memref es f) = pointwise (option_eq ◌==◌) ds es && (e == f)
same_type (type.Opaque s) (type.Opaque t) = pointwise ◌==◌ s t
same_type _ _ = false

-- attributes are equal if their kinds and all their components are
unfoldable pub same_attr : AttrNode → AttrNode → Bool
same_attr (attr.Int s v) (attr.Int t w) = (s == t) && (v == w)
same_attr (attr.Str m) (attr.Str n) = m == n
same_attr (attr.Ty s) (attr.Ty t) = s == t
same_attr attr.Unit attr.Unit = true
same_attr (attr.Array xs) (attr.Array ys) = pointwise ◌==◌ xs ys
same_attr (attr.Dict xs) (attr.Dict ys) = pointwise same_entry xs ys
same_attr (attr.Sym xs) (attr.Sym ys) = pointwise ◌==◌ xs ys
same_attr (attr.Dense s xs) (attr.Dense t ys) = (s == t) && pointwise int_eq xs ys
same_attr (attr.Overflow a b) (attr.Overflow c d) = beq a c && beq b d
same_attr (attr.Opaque s t) (attr.Opaque r u) = pointwise ◌==◌ s r && option_eq ◌==◌ t u
same_attr _ _ = false
