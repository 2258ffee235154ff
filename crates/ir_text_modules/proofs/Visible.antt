-- If operands are visible, each operation sees its operands.
use Rattle.std.proofs.Common.{◌≡◌, ℕ, ◌+◌, Bool, true, List, [], ◌∷◌, ◌++◌, length, sym, ◌∙◌}
use Rattle.std.specs.List.{AllByRecursion, list_all}
use Rattle.std.proofs.lemmas.List.Folds.{list_all-append}
use Rattle.ir_types.specs.Words.{is_isolated}
use Rattle.ir_tree.specs.Meaning.{Operation}
use Rattle.ir_tree.specs.Sites.{Frame, arguments, in_scope, inside, results_of, sites, regions_sites, region_sites, ops_sites, dominated_by_operands}
use Rattle.ir_tree.specs.Tree.{op, no_regions, region, empty, block, no_ops, next}
use Rattle.ir_text_modules.proofs.Texts.{Regions, Region, Ops}
use Rattle.ir_text_modules.proofs.Ops.{DominatedByOp, DominatedByRegions, DominatedByRegion, DominatedByOps}
use Rattle.std.proofs.lemmas.Bool.{and_parts}
use Rattle.ir_types.proofs.Truths.{all_parts}

all_pass : {X : Type 0} (p : X → Bool) (xs : List X) → list_all p xs ≡ true → AllByRecursion (λ x. p x ≡ true) xs
all_pass p [] e = tt
all_pass p (x ∷ xs) e = let k = and_parts (p x) (list_all p xs) e in (k.0, all_pass p xs k.1)

mutual
  pub dominated_by_op : (scope : List Frame) (t : Operation) → list_all dominated_by_operands (sites is_isolated scope t) ≡ true → DominatedByOp scope t
  dominated_by_op scope (op h rs) e =
      let k = and_parts (list_all (in_scope scope) h.operands) (list_all dominated_by_operands (regions_sites is_isolated (inside is_isolated h scope) h.id 0 rs)) e in
      (all_pass (in_scope scope) h.operands k.0, dominated_by_regions (inside is_isolated h scope) h.id 0 rs k.1)

  dominated_by_regions : (scope : List Frame) (x r : ℕ) (rs : Regions) → list_all dominated_by_operands (regions_sites is_isolated scope x r rs) ≡ true → DominatedByRegions scope x r rs
  dominated_by_regions scope x r no_regions e = tt
  dominated_by_regions scope x r (region g rs) e =
      let k = all_parts dominated_by_operands (region_sites is_isolated scope x r g) (regions_sites is_isolated scope x (r + 1) rs) e in
      (dominated_by_region scope x r g k.0, dominated_by_regions scope x (r + 1) rs k.1)

  dominated_by_region : (scope : List Frame) (x r : ℕ) (g : Region) → list_all dominated_by_operands (region_sites is_isolated scope x r g) ≡ true → DominatedByRegion scope x r g
  dominated_by_region scope x r empty e = tt
  dominated_by_region scope x r (block args os) e = dominated_by_ops (scope ++ arguments x r (length args) ∷ []) os e

  dominated_by_ops : (scope : List Frame) (os : Ops) → list_all dominated_by_operands (ops_sites is_isolated scope os) ≡ true → DominatedByOps scope os
  dominated_by_ops scope no_ops e = tt
  dominated_by_ops scope (next t ts) e =
      let k = all_parts dominated_by_operands (sites is_isolated scope t) (ops_sites is_isolated (scope ++ results_of t ∷ []) ts) e in
      (dominated_by_op scope t k.0, dominated_by_ops (scope ++ results_of t ∷ []) ts k.1)
