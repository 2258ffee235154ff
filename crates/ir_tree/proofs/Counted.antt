-- Counting through a tree agrees with its ids exactly if they are consecutive.
use Rattle.std.proofs.Common.{◌≡◌, refl, ap, sym, ◌∙◌, ℕ, ◌+◌, true, false, cond, eqb, List, [], ◌∷◌, ◌++◌, length, Option, Some, None, IsTrue, ◌↔◌}
use Rattle.std.proofs.Common.{true≢false, eq-eqb, inl, inr}
use Rattle.std.proofs.lemmas.Bool.Decides.{eqb_tells}
use Rattle.std.specs.Prelude.{option_and_then, if◌then◌else◌, is_some}
use Rattle.std.specs.List.{range_with_len}
use Rattle.ir_tree.specs.Tree.{OpOf, op, RegionsOf, no_regions, region, RegionOf, empty, block, OpsOf, no_ops, next}
use Rattle.ir_tree.specs.Ids.{ids, regions_ids, region_ids, ops_ids, IsNumberedFrom}
use Rattle.ir_tree.specs.Numbered.{number_after, regions_after, region_after, ops_after}

-- counting through a list of ids
abbrev count_on : ℕ → List ℕ → Option ℕ
count_on n [] = Some n
count_on n (x ∷ xs) = if eqb x n then count_on (n + 1) xs else None

count_on-append : (n : ℕ) (xs ys : List ℕ) → count_on n (xs ++ ys) ≡ option_and_then (λ m. count_on m ys) (count_on n xs)
count_on-append n [] ys = refl
count_on-append n (x ∷ xs) ys = elim (eqb x n) as (λ b. cond b (count_on (n + 1) (xs ++ ys)) None ≡ option_and_then (λ m. count_on m ys) (cond b (count_on (n + 1) xs) None)) [ true ↦ count_on-append (n + 1) xs ys | false ↦ refl ]

module _ {N T A : Type 0} where
  mutual
    op_counted : (n : ℕ) (t : OpOf N T A) → number_after n t ≡ count_on n (ids t)
    op_counted n (op h rs) = ap (λ o. cond (eqb h.id n) o None) (regions_counted (n + 1) rs)

    regions_counted : (n : ℕ) (rs : RegionsOf N T A) → regions_after n rs ≡ count_on n (regions_ids rs)
    regions_counted n no_regions = refl
    regions_counted n (region r rs) = (λ i. option_and_then (λ m. regions_counted m rs i) (region_counted n r i)) ∙ sym (count_on-append n (region_ids r) (regions_ids rs))

    region_counted : (n : ℕ) (r : RegionOf N T A) → region_after n r ≡ count_on n (region_ids r)
    region_counted n empty = refl
    region_counted n (block args os) = ops_counted n os

    ops_counted : (n : ℕ) (os : OpsOf N T A) → ops_after n os ≡ count_on n (ops_ids os)
    ops_counted n no_ops = refl
    ops_counted n (next o os) = (λ i. option_and_then (λ m. ops_counted m os i) (op_counted n o i)) ∙ sym (count_on-append n (ids o) (ops_ids os))

-- a list that agrees with counting is a range
range_from_count : (n : ℕ) (xs : List ℕ) → is_some (count_on n xs) ≡ true → xs ≡ range_with_len n (length xs)
range_from_count n [] h = refl
range_from_count n (x ∷ xs) h =
    elim (eqb_tells x n) [
      | inl e ↦ λ i. e.1 i ∷ range_from_count (n + 1) xs (ap (λ b. is_some (cond b (count_on (n + 1) xs) None)) (sym e.0) ∙ h) i
      | inr e ↦ absurd (true≢false (sym h ∙ ap (λ b. is_some (cond b (count_on (n + 1) xs) None)) e.0))
    ]

count_from_range : (n : ℕ) (xs : List ℕ) → xs ≡ range_with_len n (length xs) → is_some (count_on n xs) ≡ true
count_from_range n [] h = refl
count_from_range n (x ∷ xs) h =
    let same : x ≡ n = cc in
    let rest : xs ≡ range_with_len (n + 1) (length xs) = cc in
    ap (λ b. is_some (cond b (count_on (n + 1) xs) None)) (eq-eqb x n same) ∙ count_from_range (n + 1) xs rest

pub numbered_from_after : {N T A : Type 0} (n : ℕ) (t : OpOf N T A) → IsTrue (is_some (number_after n t)) ↔ IsNumberedFrom n t
numbered_from_after n t =
    (λ h. range_from_count n (ids t) (ap is_some (sym (op_counted n t)) ∙ h), λ h. ap is_some (op_counted n t) ∙ count_from_range n (ids t) h)
