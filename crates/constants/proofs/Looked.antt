-- The operations of a tree, by their ids and in the list.
use Rattle.std.proofs.Common.{◌≡◌, ℕ, List, [], ◌∷◌, ◌++◌, true, false, Option, Some, None, refl, sym, ap, ◌∙◌, cond, eqb, arith}
use Rattle.std.specs.Option.{option_map}
use Rattle.std.specs.Prelude.{IsTrue}
use Rattle.std.proofs.lemmas.Bool.Decides.{nat_tests}
use Rattle.ir_event.specs.types.Words.{is_isolated}
use Rattle.ir_event.specs.types.Terms.{TypeTerm, AttrTerm}
use Rattle.ir_event.specs.trees.Tree.{op, RegionsOf, no_regions, region, RegionOf, empty, block, OpsOf, no_ops, next, head}
use Rattle.ir_event.specs.trees.Ids.{HasDistinctIds, first_of, find, regions_find, region_find, ops_find}
use Rattle.ir_event.specs.trees.Meaning.{Operation}
use Rattle.ir_event.specs.trees.Sites.{operands_visible}
use Rattle.ir_event.specs.Heads.{heads, regions_heads, region_heads, ops_heads}
use Rattle.constants.specs.Facts.{Header, Facts, look, folded_if, AreLocal}
use Rattle.constants.specs.Walk.{facts_of, look_among}
use Rattle.constants.proofs.Walks.{walk_is_local, local_is_walk, value_same}
use Rattle.constants.proofs.Ordering.{ordered_tree}
use Rattle.ir_event.proofs.of_types.Sorting.{flips_eq}

pub among_append : (xs ys : List Header) (x : ℕ) → look_among (xs ++ ys) x ≡ first_of (look_among xs x) (look_among ys x)
among_append [] ys x = refl
among_append (h ∷ xs) ys x =
    ap (cond (eqb x h.id) (Some h)) (among_append xs ys x)
    ∙ elim (eqb x h.id) as (λ b. cond b (Some h) (first_of (look_among xs x) (look_among ys x)) ≡ first_of (cond b (Some h) (look_among xs x)) (look_among ys x)) [ true ↦ refl | false ↦ refl ]

first_head : (a b : Option Operation) → option_map head (first_of a b) ≡ first_of (option_map head a) (option_map head b)
first_head None b = refl
first_head (Some a) b = refl

mutual
  pub look_heads : (x : ℕ) (t : Operation) → look_among (heads t) x ≡ look t x
  look_heads x (op h rs) =
      (λ i. cond (flips_eq x h.id i) (Some h) (regions_look x rs i))
      ∙ elim (eqb h.id x) as (λ b. cond b (Some h) (option_map head (regions_find x rs)) ≡ option_map head (cond b (Some (op h rs)) (regions_find x rs))) [ true ↦ refl | false ↦ refl ]

  regions_look : (x : ℕ) (rs : RegionsOf (List ℕ) TypeTerm AttrTerm) → look_among (regions_heads rs) x ≡ option_map head (regions_find x rs)
  regions_look x no_regions = refl
  regions_look x (region r rs) = among_append (region_heads r) (regions_heads rs) x ∙ (λ i. first_of (region_look x r i) (regions_look x rs i)) ∙ sym (first_head (region_find x r) (regions_find x rs))

  region_look : (x : ℕ) (r : RegionOf (List ℕ) TypeTerm AttrTerm) → look_among (region_heads r) x ≡ option_map head (region_find x r)
  region_look x empty = refl
  region_look x (block args os) = ops_look x os

  ops_look : (x : ℕ) (os : OpsOf (List ℕ) TypeTerm AttrTerm) → look_among (ops_heads os) x ≡ option_map head (ops_find x os)
  ops_look x no_ops = refl
  ops_look x (next o os) = among_append (heads o) (ops_heads os) x ∙ (λ i. first_of (look_heads x o i) (ops_look x os i)) ∙ sym (first_head (find x o) (ops_find x os))

-- the laws for a tree
pub facts_local : (t : Operation) → HasDistinctIds t → IsTrue (operands_visible is_isolated t) → AreLocal (look t) (facts_of t)
facts_local t d dominated_by x = walk_is_local (heads t) (ordered_tree t d dominated_by) x ∙ ap (λ o. folded_if o (facts_of t)) (look_heads x t)

pub local_facts : (t : Operation) (facts : Facts) → HasDistinctIds t → IsTrue (operands_visible is_isolated t) → AreLocal (look t) facts → (x : ℕ) → facts x ≡ facts_of t x
local_facts t facts d dominated_by local = local_is_walk (heads t) facts (ordered_tree t d dominated_by) (λ x. local x ∙ ap (λ o. folded_if o facts) (sym (look_heads x t)))

-- facts equal to those of the walk
pub same_facts_local : (t : Operation) (facts : Facts) → HasDistinctIds t → IsTrue (operands_visible is_isolated t) → ((x : ℕ) → facts x ≡ facts_of t x) → AreLocal (look t) facts
same_facts_local t facts d dominated_by same x = same x ∙ facts_local t d dominated_by x ∙ value_same (look t x) (facts_of t) facts (λ y. sym (same y))
