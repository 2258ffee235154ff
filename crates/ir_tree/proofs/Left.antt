-- The ids that remain after an operation is taken out.
use Rattle.std.proofs.Common.{◌≡◌, refl, ap, sym, ◌∙◌, ℕ, ◌+◌, inl, inr, true, false, cond, ◌||◌, eqb, eq-eqb, List, [], ◌∷◌, ◌++◌, true≢false}
use Rattle.std.specs.List.{list_any, IsDistinct}
use Rattle.std.proofs.lemmas.Map.Keys.{IsDistinct-tail}
use Rattle.ir_tree.specs.Tree.{OpOf, op, RegionsOf, no_regions, region, RegionOf, empty, block, OpsOf, no_ops, next, head}
use Rattle.ir_tree.specs.Ids.{ids, regions_ids, region_ids, ops_ids, has_id, HasDistinctIds}
use Rattle.ir_tree.specs.Places.{each_list, regions_each_list, region_each_list, ops_each_list, drop_op, without}
use Rattle.ir_tree.proofs.Moves.{Absent, absent_parts}
use Rattle.ir_tree.proofs.Returns.{Present, absent_first, absent_join, cons_distinct, nil_distinct, halves}
use Rattle.std.proofs.lemmas.Bool.{cases_Bool, or_parts}

pub joined : (xs ys : List ℕ) → IsDistinct eqb xs → IsDistinct eqb ys → ((y : ℕ) → Present y xs → Absent y ys) → IsDistinct eqb (xs ++ ys)
joined [] ys d e f = e
joined (x ∷ xs) ys d e f =
    let here : Present x (x ∷ xs) = ap (λ b. b || list_any (λ y. eqb y x) xs) (same x) in
    cons_distinct x (xs ++ ys) (absent_join x xs ys (absent_first x xs d) (f x here)) (joined xs ys (IsDistinct-tail eqb x xs d) e (λ y p. f y (later y p)))
  where
    same : (x : ℕ) → eqb x x ≡ true
    same x = eq-eqb x x refl

    later : (y : ℕ) → Present y xs → Present y (x ∷ xs)
    later y p = elim (cases_Bool (eqb x y)) [ inl e ↦ ap (λ b. b || list_any (λ z. eqb z y) xs) e | inr e ↦ ap (λ b. b || list_any (λ z. eqb z y) xs) e ∙ p ]

-- two disjoint lists stay disjoint if both lose items
fewer : (xs ys xs' ys' : List ℕ) → ((y : ℕ) → Present y xs → Absent y ys) → ((y : ℕ) → Absent y xs → Absent y xs') → ((y : ℕ) → Absent y ys → Absent y ys') → (y : ℕ) → Present y xs' → Absent y ys'
fewer xs ys xs' ys' f g h y p = elim (cases_Bool (list_any (λ z. eqb z y) xs)) [ inl q ↦ h y (f y q) | inr q ↦ absurd (true≢false (sym p ∙ g y q)) ]

module _ {N T A : Type 0} (x : ℕ) where
  -- no id is added
  mutual
    left_op : (y : ℕ) (t : OpOf N T A) → Absent y (ids t) → Absent y (ids (each_list (λ p r os. drop_op x os) t))
    left_op y (op h rs) a = let b = or_parts _ _ a in λ i. b.0 i || left_regions y h.id 0 rs b.1 i

    left_regions : (y p r : ℕ) (rs : RegionsOf N T A) → Absent y (regions_ids rs) → Absent y (regions_ids (regions_each_list (λ p r os. drop_op x os) p r rs))
    left_regions y p r no_regions a = refl
    left_regions y p r (region g rs) a = let b = absent_parts y (region_ids g) (regions_ids rs) a in absent_join y _ _ (left_region y p r g b.0) (left_regions y p (r + 1) rs b.1)

    left_region : (y p r : ℕ) (g : RegionOf N T A) → Absent y (region_ids g) → Absent y (region_ids (region_each_list (λ p r os. drop_op x os) p r g))
    left_region y p r empty a = refl
    left_region y p r (block args os) a = left_ops y os a

    left_ops : (y : ℕ) (os : OpsOf N T A) → Absent y (ops_ids os) → Absent y (ops_ids (drop_op x (ops_each_list (λ p r os. drop_op x os) os)))
    left_ops y no_ops a = refl
    left_ops y (next (op h rs) os) a =
        let b = absent_parts y (ids (op h rs)) (ops_ids os) a in
        let d = λ (p r : ℕ) (os : OpsOf N T A). drop_op x os in
        elim (eqb h.id x) as (λ c. Absent y (ops_ids (cond c (drop_op x (ops_each_list d os)) (next (each_list d (op h rs)) (drop_op x (ops_each_list d os))))))
        [ true ↦ left_ops y os b.1 | false ↦ absent_join y (ids (each_list d (op h rs))) (ops_ids (drop_op x (ops_each_list d os))) (left_op y (op h rs) b.0) (left_ops y os b.1) ]

  -- distinct ids stay distinct
  mutual
    distinct_op : (t : OpOf N T A) → IsDistinct eqb (ids t) → IsDistinct eqb (ids (each_list (λ p r os. drop_op x os) t))
    distinct_op (op h rs) d =
        cons_distinct h.id (regions_ids (regions_each_list (λ p r os. drop_op x os) h.id 0 rs)) (left_regions h.id h.id 0 rs (absent_first h.id (regions_ids rs) d)) (distinct_regions h.id 0 rs (IsDistinct-tail eqb h.id (regions_ids rs) d))

    distinct_regions : (p r : ℕ) (rs : RegionsOf N T A) → IsDistinct eqb (regions_ids rs) → IsDistinct eqb (regions_ids (regions_each_list (λ p r os. drop_op x os) p r rs))
    distinct_regions p r no_regions d = nil_distinct
    distinct_regions p r (region g rs) d =
        let hv = halves (region_ids g) (regions_ids rs) d in
        joined _ _ (distinct_region p r g hv.left) (distinct_regions p (r + 1) rs hv.right)
        (fewer (region_ids g) (regions_ids rs) _ _ hv.disjoint (λ y. left_region y p r g) (λ y. left_regions y p (r + 1) rs))

    distinct_region : (p r : ℕ) (g : RegionOf N T A) → IsDistinct eqb (region_ids g) → IsDistinct eqb (region_ids (region_each_list (λ p r os. drop_op x os) p r g))
    distinct_region p r empty d = nil_distinct
    distinct_region p r (block args os) d = distinct_ops os d

    distinct_ops : (os : OpsOf N T A) → IsDistinct eqb (ops_ids os) → IsDistinct eqb (ops_ids (drop_op x (ops_each_list (λ p r os. drop_op x os) os)))
    distinct_ops no_ops d = nil_distinct
    distinct_ops (next (op h rs) os) d =
        let hv = halves (ids (op h rs)) (ops_ids os) d in
        let e = λ (p r : ℕ) (os : OpsOf N T A). drop_op x os in
        elim (eqb h.id x) as (λ c. IsDistinct eqb (ops_ids (cond c (drop_op x (ops_each_list e os)) (next (each_list e (op h rs)) (drop_op x (ops_each_list e os)))))) [
          | true ↦ distinct_ops os hv.right
          | false ↦ joined (ids (each_list e (op h rs))) (ops_ids (drop_op x (ops_each_list e os))) (distinct_op (op h rs) hv.left) (distinct_ops os hv.right)
              (fewer (ids (op h rs)) (ops_ids os) (ids (each_list e (op h rs))) (ops_ids (drop_op x (ops_each_list e os))) hv.disjoint (λ y. left_op y (op h rs)) (λ y. left_ops y os))
        ]

  -- the operation is removed
  mutual
    gone_regions : (p r : ℕ) (rs : RegionsOf N T A) → Absent x (regions_ids (regions_each_list (λ p r os. drop_op x os) p r rs))
    gone_regions p r no_regions = refl
    gone_regions p r (region g rs) = absent_join x _ _ (gone_region p r g) (gone_regions p (r + 1) rs)

    gone_region : (p r : ℕ) (g : RegionOf N T A) → Absent x (region_ids (region_each_list (λ p r os. drop_op x os) p r g))
    gone_region p r empty = refl
    gone_region p r (block args os) = gone_ops os

    gone_ops : (os : OpsOf N T A) → Absent x (ops_ids (drop_op x (ops_each_list (λ p r os. drop_op x os) os)))
    gone_ops no_ops = refl
    gone_ops (next (op h rs) os) =
        let d = λ (p r : ℕ) (os : OpsOf N T A). drop_op x os in
        elim (cases_Bool (eqb h.id x)) [
          | inl k ↦ ap (λ c. list_any (λ y. eqb y x) (ops_ids (cond c (drop_op x (ops_each_list d os)) (next (each_list d (op h rs)) (drop_op x (ops_each_list d os)))))) k ∙ gone_ops os
          | inr k ↦ ap (λ c. list_any (λ y. eqb y x) (ops_ids (cond c (drop_op x (ops_each_list d os)) (next (each_list d (op h rs)) (drop_op x (ops_each_list d os)))))) k
              ∙ absent_join x (ids (each_list d (op h rs))) (ops_ids (drop_op x (ops_each_list d os))) (λ i. k i || gone_regions h.id 0 rs i) (gone_ops os)
        ]

  pub left_ids : (y : ℕ) (t : OpOf N T A) → has_id y t ≡ false → has_id y (without x t) ≡ false
  left_ids y t a = left_op y t a

  pub left_distinct : (t : OpOf N T A) → HasDistinctIds t → HasDistinctIds (without x t)
  left_distinct t d = distinct_op t d

  pub gone : (t : OpOf N T A) → eqb (head t).id x ≡ false → has_id x (without x t) ≡ false
  gone (op h rs) k = λ i. k i || gone_regions h.id 0 rs i
