-- The ids after an operation is inserted.
use Rattle.std.proofs.Common.{◌≡◌, refl, ap, sym, ◌∙◌, subst, ℕ, ◌+◌, ◌⊎◌, inl, inr, Bool, true, false, cond, ◌||◌, eqb, eq-eqb, List, [], ◌++◌, Option, Some, None, true≢false, arith}
use Rattle.std.specs.List.{list_any, IsDistinct}
use Rattle.std.proofs.lemmas.Bool.{eqb-true, cases_Bool, and_parts, or_parts, ne_eqb}
use Rattle.std.proofs.lemmas.Map.Keys.{IsDistinct-tail}
use Rattle.ir_tree.specs.declared.place.Place.{Place}
use Rattle.ir_tree.specs.Tree.{OpOf, op, RegionsOf, no_regions, region, RegionOf, empty, block, OpsOf, no_ops, next, head}
use Rattle.ir_tree.specs.Ids.{ids, regions_ids, region_ids, ops_ids, has_id, HasDistinctIds}
use Rattle.ir_tree.specs.Places.{each_list, regions_each_list, region_each_list, ops_each_list, put_last, put_before, put_in, is_in_block, put_here, put}
use Rattle.ir_tree.proofs.Moves.{Absent, absent_parts, unput, ops_unput}
use Rattle.ir_tree.proofs.Returns.{Present, absent_first, absent_join, cons_distinct, nil_distinct, Halves, halves, differ, other_parent, other_region, unput_region, unput_later}
use Rattle.ir_tree.proofs.Left.{joined}

-- two lists are disjoint
abbrev pub Apart : List ℕ → List ℕ → Type 0
Apart xs ys = (y : ℕ) → Present y xs → Absent y ys

turned : (xs ys : List ℕ) → Apart xs ys → Apart ys xs
turned xs ys f y p = elim (cases_Bool (list_any (λ z. eqb z y) xs)) [ inl q ↦ absurd (true≢false (sym p ∙ f y q)) | inr q ↦ q ]

apart_left : (os xs ys : List ℕ) → Apart os (xs ++ ys) → Apart os xs
apart_left os xs ys f y p = (absent_parts y xs ys (f y p)).0

apart_right : (os xs ys : List ℕ) → Apart os (xs ++ ys) → Apart os ys
apart_right os xs ys f y p = (absent_parts y xs ys (f y p)).1

-- xs and os are disjoint from ys; a list with at most the items of both is disjoint from ys too
gains : (os xs xs' ys : List ℕ) → Apart xs ys → Apart os ys → ((y : ℕ) → Absent y os → Absent y xs → Absent y xs') → Apart xs' ys
gains os xs xs' ys f g h y p =
    elim (cases_Bool (list_any (λ z. eqb z y) xs)) [
      | inl q ↦ f y q
      | inr q ↦ elim (cases_Bool (list_any (λ z. eqb z y) os)) [ inl r ↦ g y r | inr r ↦ absurd (true≢false (sym p ∙ h y r q)) ]
    ]

module _ {N T A : Type 0} (place : Place) (o : OpOf N T A) where
  -- no other id is added
  gained_last : (y : ℕ) (os : OpsOf N T A) → Absent y (ids o) → Absent y (ops_ids os) → Absent y (ops_ids (put_last o os))
  gained_last y no_ops a b = absent_join y (ids o) [] a refl
  gained_last y (next q os) a b = let c = absent_parts y (ids q) (ops_ids os) b in absent_join y (ids q) (ops_ids (put_last o os)) c.0 (gained_last y os a c.1)

  gained_before : (x y : ℕ) (os : OpsOf N T A) → Absent y (ids o) → Absent y (ops_ids os) → Absent y (ops_ids (put_before x o os))
  gained_before x y no_ops a b = refl
  gained_before x y (next q os) a b =
      let c = absent_parts y (ids q) (ops_ids os) b in
      elim (eqb (head q).id x) as (λ k. Absent y (ops_ids (cond k (next o (next q os)) (next q (put_before x o os)))))
      [ true ↦ absent_join y (ids o) (ids q ++ ops_ids os) a b | false ↦ absent_join y (ids q) (ops_ids (put_before x o os)) c.0 (gained_before x y os a c.1) ]

  gained_in : (b : Option ℕ) (y : ℕ) (os : OpsOf N T A) → Absent y (ids o) → Absent y (ops_ids os) → Absent y (ops_ids (put_in b o os))
  gained_in None y os a c = gained_last y os a c
  gained_in (Some b) y os a c = gained_before b y os a c

  gained_here : (y p r : ℕ) (os : OpsOf N T A) → Absent y (ids o) → Absent y (ops_ids os) → Absent y (ops_ids (put_here place o p r os))
  gained_here y p r os a c = elim (is_in_block place p r) as (λ k. Absent y (ops_ids (cond k (put_in place.before o os) os))) [ true ↦ gained_in place.before y os a c | false ↦ c ]

  mutual
    gained_op : (y : ℕ) (t : OpOf N T A) → Absent y (ids o) → Absent y (ids t) → Absent y (ids (each_list (put_here place o) t))
    gained_op y (op h rs) a b = let c = or_parts _ _ b in λ i. c.0 i || gained_regions y h.id 0 rs a c.1 i

    gained_regions : (y p r : ℕ) (rs : RegionsOf N T A) → Absent y (ids o) → Absent y (regions_ids rs) → Absent y (regions_ids (regions_each_list (put_here place o) p r rs))
    gained_regions y p r no_regions a b = refl
    gained_regions y p r (region g rs) a b = let c = absent_parts y (region_ids g) (regions_ids rs) b in absent_join y _ _ (gained_region y p r g a c.0) (gained_regions y p (r + 1) rs a c.1)

    gained_region : (y p r : ℕ) (g : RegionOf N T A) → Absent y (ids o) → Absent y (region_ids g) → Absent y (region_ids (region_each_list (put_here place o) p r g))
    gained_region y p r empty a b = refl
    gained_region y p r (block args os) a b = gained_here y p r (ops_each_list (put_here place o) os) a (gained_ops y os a b)

    gained_ops : (y : ℕ) (os : OpsOf N T A) → Absent y (ids o) → Absent y (ops_ids os) → Absent y (ops_ids (ops_each_list (put_here place o) os))
    gained_ops y no_ops a b = refl
    gained_ops y (next q os) a b = let c = absent_parts y (ids q) (ops_ids os) b in absent_join y _ _ (gained_op y q a c.0) (gained_ops y os a c.1)

  pub gained_ids : (y : ℕ) (t : OpOf N T A) → has_id y o ≡ false → has_id y t ≡ false → has_id y (put place o t) ≡ false
  gained_ids y t a b = gained_op y t a b

  -- distinct ids stay distinct
  module _ (own : IsDistinct eqb (ids o)) where
    distinct_last : (os : OpsOf N T A) → IsDistinct eqb (ops_ids os) → Apart (ids o) (ops_ids os) → IsDistinct eqb (ops_ids (put_last o os))
    distinct_last no_ops d f = joined (ids o) [] own nil_distinct (λ y p. refl)
    distinct_last (next q os) d f =
        let hv = halves (ids q) (ops_ids os) d in
        joined (ids q) (ops_ids (put_last o os)) hv.left (distinct_last os hv.right (apart_right (ids o) (ids q) (ops_ids os) f))
        (λ y p. gained_last y os (turned (ids o) (ids q) (apart_left (ids o) (ids q) (ops_ids os) f) y p) (hv.disjoint y p))

    distinct_before : (x : ℕ) (os : OpsOf N T A) → IsDistinct eqb (ops_ids os) → Apart (ids o) (ops_ids os) → IsDistinct eqb (ops_ids (put_before x o os))
    distinct_before x no_ops d f = nil_distinct
    distinct_before x (next q os) d f =
        let hv = halves (ids q) (ops_ids os) d in
        elim (eqb (head q).id x) as (λ k. IsDistinct eqb (ops_ids (cond k (next o (next q os)) (next q (put_before x o os))))) [
          | true ↦ joined (ids o) (ids q ++ ops_ids os) own d f
          | false ↦ joined (ids q) (ops_ids (put_before x o os)) hv.left (distinct_before x os hv.right (apart_right (ids o) (ids q) (ops_ids os) f))
              (λ y p. gained_before x y os (turned (ids o) (ids q) (apart_left (ids o) (ids q) (ops_ids os) f) y p) (hv.disjoint y p))
        ]

    distinct_in : (b : Option ℕ) (os : OpsOf N T A) → IsDistinct eqb (ops_ids os) → Apart (ids o) (ops_ids os) → IsDistinct eqb (ops_ids (put_in b o os))
    distinct_in None os d f = distinct_last os d f
    distinct_in (Some b) os d f = distinct_before b os d f

    -- if the block of this region is the place's, or contains it, the later regions are unchanged
    later_stay : (p r : ℕ) (g : RegionOf N T A) (rs : RegionsOf N T A) → Absent p (region_ids g) → Absent p (regions_ids rs) → Halves (region_ids g) (regions_ids rs)
        → (is_in_block place p r ≡ true) ⊎ Present place.parent (region_ids g) → regions_each_list (put_here place o) p (r + 1) rs ≡ rs
    later_stay p r g rs a b hv loc =
        elim loc [
          | inl k ↦ (let c = and_parts (eqb p place.parent) (eqb r place.region) k in
              let same : r ≡ place.region = eqb-true r place.region c.1 in
              unput_later place o p (r + 1) rs (λ k m. other_region place o p k (ne_eqb k place.region (λ e. omega arith))) (subst (λ (z : ℕ). Absent z (regions_ids rs)) (eqb-true p place.parent c.0) b))
          | inr k ↦ unput_later place o p (r + 1) rs (λ j m. other_parent place o p j (differ p place.parent (region_ids g) a k)) (hv.disjoint place.parent k)
        ]

    -- a region contains the place, or it doesn't
    where_is : (p r : ℕ) (g : RegionOf N T A) → ((is_in_block place p r ≡ true) ⊎ Present place.parent (region_ids g)) ⊎ ((is_in_block place p r ≡ false) × Absent place.parent (region_ids g))
    where_is p r g =
        elim (cases_Bool (is_in_block place p r)) [
          | inl k ↦ inl (inl k)
          | inr k ↦ elim (cases_Bool (list_any (λ z. eqb z place.parent) (region_ids g))) [ inl q ↦ inl (inr q) | inr q ↦ inr (k, q) ]
        ]

    mutual
      distinct_op : (t : OpOf N T A) → IsDistinct eqb (ids t) → Apart (ids o) (ids t) → IsDistinct eqb (ids (each_list (put_here place o) t))
      distinct_op (op h rs) d f =
          let a = absent_first h.id (regions_ids rs) d in
          let here : Present h.id (ids (op h rs)) = ap (λ b. b || list_any (λ y. eqb y h.id) (regions_ids rs)) (eq-eqb h.id h.id refl) in
          cons_distinct h.id (regions_ids (regions_each_list (put_here place o) h.id 0 rs)) (gained_regions h.id h.id 0 rs (turned (ids o) (ids (op h rs)) f h.id here) a)
          (distinct_regions h.id 0 rs a (IsDistinct-tail eqb h.id (regions_ids rs) d) (λ y p. (or_parts _ _ (f y p)).1))

      distinct_regions : (p r : ℕ) (rs : RegionsOf N T A) → Absent p (regions_ids rs) → IsDistinct eqb (regions_ids rs) → Apart (ids o) (regions_ids rs) → IsDistinct eqb (regions_ids (regions_each_list (put_here place o) p r rs))
      distinct_regions p r no_regions a d f = nil_distinct
      distinct_regions p r (region g rs) a d f =
          let b = absent_parts p (region_ids g) (regions_ids rs) a in
          let hv = halves (region_ids g) (regions_ids rs) d in
          let fg = apart_left (ids o) (region_ids g) (regions_ids rs) f in
          let fr = apart_right (ids o) (region_ids g) (regions_ids rs) f in
          elim (where_is p r g) [
            | inl loc ↦ subst (λ (ss : RegionsOf N T A). IsDistinct eqb (region_ids (region_each_list (put_here place o) p r g) ++ regions_ids ss)) (sym (later_stay p r g rs b.0 b.1 hv loc))
                (joined (region_ids (region_each_list (put_here place o) p r g)) (regions_ids rs) (distinct_region p r g b.0 hv.left fg) hv.right
                (gains (ids o) (region_ids g) (region_ids (region_each_list (put_here place o) p r g)) (regions_ids rs) hv.disjoint fr (λ y. gained_region y p r g)))
            | inr out ↦ subst (λ (s : RegionOf N T A). IsDistinct eqb (region_ids s ++ regions_ids (regions_each_list (put_here place o) p (r + 1) rs))) (sym (unput_region place o p r g out.0 out.1))
                (joined (region_ids g) (regions_ids (regions_each_list (put_here place o) p (r + 1) rs)) hv.left (distinct_regions p (r + 1) rs b.1 hv.right fr)
                (λ y q. gained_regions y p (r + 1) rs (turned (ids o) (region_ids g) fg y q) (hv.disjoint y q)))
          ]

      distinct_region : (p r : ℕ) (g : RegionOf N T A) → Absent p (region_ids g) → IsDistinct eqb (region_ids g) → Apart (ids o) (region_ids g) → IsDistinct eqb (region_ids (region_each_list (put_here place o) p r g))
      distinct_region p r empty a d f = nil_distinct
      distinct_region p r (block args os) a d f =
          elim (cases_Bool (is_in_block place p r)) [
            | inl k ↦ (let c = and_parts (eqb p place.parent) (eqb r place.region) k in
                let same : ops_each_list (put_here place o) os ≡ os = ops_unput place o os (subst (λ (z : ℕ). Absent z (ops_ids os)) (eqb-true p place.parent c.0) a) in
                subst (λ (l : OpsOf N T A). IsDistinct eqb (ops_ids (put_here place o p r l))) (sym same)
                (subst (λ (b : Bool). IsDistinct eqb (ops_ids (cond b (put_in place.before o os) os))) (sym k) (distinct_in place.before os d f)))
            | inr k ↦ subst (λ (b : Bool). IsDistinct eqb (ops_ids (cond b (put_in place.before o (ops_each_list (put_here place o) os)) (ops_each_list (put_here place o) os)))) (sym k) (distinct_ops os d f)
          ]

      distinct_ops : (os : OpsOf N T A) → IsDistinct eqb (ops_ids os) → Apart (ids o) (ops_ids os) → IsDistinct eqb (ops_ids (ops_each_list (put_here place o) os))
      distinct_ops no_ops d f = nil_distinct
      distinct_ops (next q os) d f =
          let hv = halves (ids q) (ops_ids os) d in
          let fq = apart_left (ids o) (ids q) (ops_ids os) f in
          let fr = apart_right (ids o) (ids q) (ops_ids os) f in
          elim (cases_Bool (list_any (λ z. eqb z place.parent) (ids q))) [
            | inl k ↦ subst (λ (l : OpsOf N T A). IsDistinct eqb (ids (each_list (put_here place o) q) ++ ops_ids l)) (sym (ops_unput place o os (hv.disjoint place.parent k)))
                (joined (ids (each_list (put_here place o) q)) (ops_ids os) (distinct_op q hv.left fq) hv.right
                (gains (ids o) (ids q) (ids (each_list (put_here place o) q)) (ops_ids os) hv.disjoint fr (λ y. gained_op y q)))
            | inr k ↦ subst (λ (w : OpOf N T A). IsDistinct eqb (ids w ++ ops_ids (ops_each_list (put_here place o) os))) (sym (unput place o q k))
                (joined (ids q) (ops_ids (ops_each_list (put_here place o) os)) hv.left (distinct_ops os hv.right fr) (λ y p. gained_ops y os (turned (ids o) (ids q) fq y p) (hv.disjoint y p)))
          ]

    pub gained_distinct : (t : OpOf N T A) → HasDistinctIds t → Apart (ids o) (ids t) → HasDistinctIds (put place o t)
    gained_distinct t d f = distinct_op t d f
