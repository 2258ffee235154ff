-- Listed operations with opaque types where their rows allow only some types. MLIR's operations have wider types than
-- the table: an addition of vectors is valid there.
use Rattle.std.specs.Prelude.{ℕ, List, ◌∷◌, codes, length, Bool, true, false, not, ◌==◌, ◌&&◌, ◌||◌, Option, Some, None}
use Rattle.std.specs.List.{filter}
use Rattle.ir_types.specs.Terms.{TypeTerm, OpaqueType}
use Rattle.op_registry.specs.declared.own.Own.{Own}
use Rattle.op_registry.specs.declared.own.Own.TheVariants.{Pure}
use Rattle.op_registry.specs.declared.definition.TypeRule.{TypeRule}
use Rattle.op_registry.specs.declared.definition.TypeRule.TheVariants as type
use Rattle.op_registry.specs.Rows.{Row}
use Rattle.op_registry.specs.Registry.{row_of}
use Rattle.ir_verify_base.specs.Fits.{Surroundings, is_named, is_there, there}
use Rattle.ir_verify.specs.Breaks.{broken}

-- whether a type is opaque
abbrev pub is_opaque : TypeTerm → Bool
is_opaque (OpaqueType text) = true
is_opaque _ = false

-- whether an operation has no effect
abbrev pub is_pure : Own → Bool
is_pure Pure = true
is_pure _ = false

-- whether an operation only computes: it has no effect and no region, and isn't a terminator; in the table these are
-- the operations of `arith`, and a cast between any types
abbrev pub only_computes : Row → Bool
only_computes row = is_pure row.effects && (length row.regions == 0 && not row.traits.terminator)

-- whether a type rule allows only memrefs, or only integers and `index`; the latter counts only if the operation only
-- computes
abbrev pub speaks_of_some : Bool → TypeRule → Bool
speaks_of_some computes type.Number = computes
speaks_of_some computes type.OtherNumber = computes
speaks_of_some computes type.Integer = computes
speaks_of_some computes type.Boolean = computes
speaks_of_some computes type.Memref = true
speaks_of_some computes _ = false

-- whether a type is opaque where the row allows only some types
abbrev pub any_opaque : Bool → List TypeRule → List (Option TypeTerm) → Bool
any_opaque computes (rule ∷ rules) (t ∷ ts) =
    (speaks_of_some computes rule && is_there is_opaque t) || any_opaque computes rules ts
any_opaque computes _ _ = false

-- whether an operand or a result of the operation is beyond its row
abbrev pub is_beyond_row : Row → Surroundings → Bool
is_beyond_row row s =
    any_opaque (only_computes row) row.operands.first s.types
    || any_opaque (only_computes row) row.results.first (there s.node.head.results)

abbrev pub is_beyond_in : Option Row → Surroundings → Bool
is_beyond_in None s = false
is_beyond_in (Some row) s = is_beyond_row row s

-- whether a listed operation is beyond the table
abbrev pub is_beyond : Surroundings → Bool
is_beyond s = is_beyond_in (row_of s.node.head.name) s

-- whether a rule is on the integers, indices and memrefs of the table; for a constant, the rule on the kind of its
-- value is one too
abbrev pub is_on_types : Bool → ℕ → Bool
is_on_types constant r =
    r == 2
    || (r == 4 || (r == 14 || (r == 18 || (r == 19 || (r == 20 || (r == 24 || (constant && r == 13)))))))

-- the reported rules of an operation: the broken ones, except those on types if the operation is beyond the table
abbrev pub reported : Surroundings → List ℕ
reported s = filter (λ r. not (is_beyond s && is_on_types (is_named s.node (codes "arith.constant")) r)) (broken s)
