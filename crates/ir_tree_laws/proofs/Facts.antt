-- Preconditions on trees that are used in many places.
use Rattle.ir_tree.proofs.Mapped.{map_ids}
use Rattle.ir_tree.specs.Ids.{op_count}
use Rattle.ir_tree.specs.Meaning.{meaning}
use Rattle.ir_tree.specs.Tree.{Op, OpOf, RegionOf, RegionsOf, head, no_regions, op, region, region_count}
use Rattle.ir_tree_laws.specs.Members.{In}
use Rattle.ir_tree_laws.specs.Reasons.{with_id}
use Rattle.ir_tree_laws.specs.Values.{region_at}
use Rattle.ir_tree.specs.types.Terms.{attr_term, name_term, type_term}
use Rattle.ir_tree.specs.types.Things.{ContextModel}
use Rattle.std.proofs.Common.{[], List, Some, arith, inl, inr, refl, suc, zero, ℕ, ◌&&◌, ◌++◌, ◌+◌, ◌<◌, ◌∙◌, ◌∷◌, ◌≡◌, ◌≢◌, ◌≤◌, ◌⊎◌}
use Rattle.std.proofs.lemmas.Bool.{cases_eq}

pub in_or_not : (y : ℕ) (xs : List ℕ) → In y xs ⊎ (In y xs → ⊥)
in_or_not y [] = inr (λ h. h)
in_or_not y (x ∷ xs) = elim (cases_eq y x) [
  | inl e ↦ inl (inl e)
  | inr ne ↦ elim (in_or_not y xs) [ inl h ↦ inl (inr h) | inr non ↦ inr (λ h. elim h [ inl e ↦ ne e | inr h2 ↦ non h2 ]) ]
]

pub count_meaning : (c : ContextModel) (t : Op) → op_count (meaning c t) ≡ op_count t
count_meaning c t = rw (map_ids (name_term c) (type_term c) (attr_term c) t) refl

module _ {N T A : Type 0} where
  pub region_below : (r : ℕ) (rs : RegionsOf N T A) (g : RegionOf N T A) → region_at r rs ≡ Some g → r < region_count rs
  region_below r no_regions g e = absurd cc
  region_below zero (region h rs) g e = omega arith
  region_below (suc r) (region h rs) g e = omega (arith, region_below r rs g e)

  pub new_id : (n : ℕ) (o : OpOf N T A) → (head (with_id n o)).id ≡ n
  new_id n (op h rs) = refl

  pub new_operands : (n : ℕ) (o : OpOf N T A) → (head (with_id n o)).operands ≡ (head o).operands
  new_operands n (op h rs) = refl

  pub new_results : (n : ℕ) (o : OpOf N T A) → (head (with_id n o)).results ≡ (head o).results
  new_results n (op h rs) = refl
