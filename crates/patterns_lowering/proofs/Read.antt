-- Reading an operation, and lowering one of `arith`.
use Rattle.std.proofs.Common.{◌≡◌, refl, ap, sym, ℕ, ◌+◌, ◌++◌, List, [], ◌∷◌, map, Bool, ◌&&◌, ◌||◌, Some}
use Rattle.ir_event.specs.types.Terms.{TypeTerm, AttrTerm}
use Rattle.ir_event.specs.trees.declared.value.Value.{Value}
use Rattle.ir_event.specs.trees.declared.place.Place.{Place}
use Rattle.ir_event.specs.trees.Tree.{OpOf, op, RegionsOf, no_regions, region, empty, block, no_ops, head}
use Rattle.ir_event.specs.trees.Maps.{map_tree, map_head, map_regions}
use Rattle.ir_event.specs.trees.Meaning.{Operation}
use Rattle.patterns_soundness.specs.base.Words.{among, index_users}
use Rattle.patterns_soundness.specs.base.Looks.{when, is_index_value}
use Rattle.patterns_soundness.specs.base.Edits.{Make}
use Rattle.patterns_soundness.specs.base.Made.{i64}
use Rattle.patterns_soundness.specs.base.Keeps.{lowered_type}
use Rattle.patterns_soundness.specs.base.Lowering.{bridges, crossed, marked, indices, any, lowered_header, lowered_regions, lowered_op, lower_index}
use Rattle.patterns_lowering.specs.Bare.{bare, bare_regions}
use Rattle.patterns_lowering.specs.Meanings.{operation_lowered, results_given}

-- an operation without the operations inside its blocks lowers to the same one
lowered_bare : (rs : RegionsOf (List ℕ) TypeTerm AttrTerm) → lowered_regions (bare_regions rs) ≡ lowered_regions rs
lowered_bare no_regions = refl
lowered_bare (region empty rs) = ap (region empty) (lowered_bare rs)
lowered_bare (region (block args os) rs) = ap (region (block (map lowered_type args) no_ops)) (lowered_bare rs)

pub op_bare : (o : Operation) (vs : List Value) → lowered_op (bare o) vs ≡ lowered_op o vs
op_bare (op h rs) vs = ap (op (lowered_header h vs)) (lowered_bare rs)

-- whether an operation is an `arith` operation that the rule lowers
abbrev pub applies_lower_index : Operation → Operation → Bool
applies_lower_index t o = among index_users (head o).name && (any (map (is_index_value t) (head o).operands) || any (indices (head o).results))

-- its edits, from what is read
pub lower_index_read : (t : Operation) (n : ℕ) (insertion : Place) (o : Operation)
    → lower_index t n insertion o ≡ when (applies_lower_index t o) (Some (operation_lowered n insertion (map (is_index_value t) (head o).operands) (indices (head o).results) (bare o)))
lower_index_read t n insertion (op h rs) =
    ap
    (λ (m : Operation).
    when (applies_lower_index t (op h rs))
    (Some
    (bridges i64 insertion (map (is_index_value t) h.operands) h.operands
    ++ Make insertion m ∷ []
    ++ results_given n insertion (map (is_index_value t) h.operands) (indices h.results) (op h rs) (n + marked (map (is_index_value t) h.operands)) (n + marked (map (is_index_value t) h.operands) + 1))))
    (sym (op_bare (op h rs) (crossed n (map (is_index_value t) h.operands) h.operands)))

-- the meaning of an operation without the operations inside its blocks
module _ {N T A M U B : Type 0} (f : N → M) (g : T → U) (h : A → B) where
  bare_mapped_regions : (rs : RegionsOf N T A) → map_regions f g h (bare_regions rs) ≡ bare_regions (map_regions f g h rs)
  bare_mapped_regions no_regions = refl
  bare_mapped_regions (region empty rs) = ap (region empty) (bare_mapped_regions rs)
  bare_mapped_regions (region (block args os) rs) = ap (region (block (map g args) no_ops)) (bare_mapped_regions rs)

  pub bare_mapped : (o : OpOf N T A) → map_tree f g h (bare o) ≡ bare (map_tree f g h o)
  bare_mapped (op x rs) = ap (op (map_head f g h x)) (bare_mapped_regions rs)
