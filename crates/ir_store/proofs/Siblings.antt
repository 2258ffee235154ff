-- The pre-order of operations with the same parent.
use Rattle.std.proofs.Common.{◌≡◌, refl, ap, sym, ◌∙◌, subst, ℕ, zero, suc, ◌<◌, Bool, true, false, true≢false, cond, eqb, eq-eqb, eqb-true, List, ◌∷◌, ◌++◌, Some, inl, inr, arith}
use Rattle.std.specs.List.{IsDistinct}
use Rattle.ir_store_reads.specs.trees.Tree.{OpOf, op, RegionsOf, no_regions, region, RegionOf, block, OpsOf, no_ops, next, head, regions}
use Rattle.ir_store_reads.specs.trees.Ids.{ids, regions_ids, region_ids, ops_ids}
use Rattle.ir_store_reads.proofs.of_trees.Moves.{Absent}
use Rattle.ir_store_reads.proofs.of_trees.Returns.{Present, halves}
use Rattle.ir_store_reads.specs.tree_laws.Values.{region_at}
use Rattle.ir_store_reads.specs.tree_laws.Reads.{is_among, goes_before, comes_after}
use Rattle.ir_store_reads.proofs.of_tree_laws.Listed.{bool_cases, neither, either, or_left}
use Rattle.ir_store.proofs.After.{there, in_preceding, in_back, skip, hit, never_later, cut_back, not_itself}
use Rattle.ir_store_reads.proofs.of_trees.of_types.Truths.{both_false}
use Rattle.ir_store_reads.proofs.of_trees.Facts.{ids_head}

-- an item of the second of two disjoint lists isn't in the first
other : (y : ℕ) (xs ys : List ℕ) → ((z : ℕ) → Present z xs → Absent z ys) → Present y ys → Absent y xs
other y xs ys f h = elim (bool_cases (there y xs)) [ inr k ↦ k | inl k ↦ absurd (true≢false (sym h ∙ f y k)) ]

module _ {N T A : Type 0} where
  pub own_present : (o : OpOf N T A) → Present (head o).id (ids o)
  own_present (op h rs) = or_left (eqb h.id h.id) (there h.id (regions_ids rs)) (eq-eqb h.id h.id refl)

  among_ids : (y : ℕ) (os : OpsOf N T A) → is_among y os ≡ true → Present y (ops_ids os)
  among_ids y no_ops e = absurd (true≢false (sym e))
  among_ids y (next o os) e = elim (either (eqb (head o).id y) (is_among y os) e) [
    | inl k ↦ in_preceding y (ids o) (ops_ids os) (subst (λ z. Present z (ids o)) (eqb-true (head o).id y k) (own_present o))
    | inr k ↦ in_back y (ids o) (ops_ids os) (among_ids y os k)
  ]

  never_goes : (a b : ℕ) (os : OpsOf N T A) → is_among b os ≡ false → goes_before a b os ≡ false
  never_goes a b no_ops e = refl
  never_goes a b (next o os) e = let c = neither (eqb (head o).id b) (is_among b os) e in (λ i. cond (eqb (head o).id a) (c.1 i) (never_goes a b os c.1 i)) ∙ both_false (eqb (head o).id a)

  -- two operations of one list
  goes_is : (a b : ℕ) (os : OpsOf N T A) → IsDistinct eqb (ops_ids os) → is_among a os ≡ true → is_among b os ≡ true → goes_before a b os ≡ comes_after a b (ops_ids os)
  goes_is a b no_ops d ea eb = absurd (true≢false (sym ea))
  goes_is a b (next o os) d ea eb =
      let h = halves (ids o) (ops_ids os) d in
      elim (bool_cases (eqb (head o).id a)) [
        | inl k ↦ ap (λ e. cond e (is_among b os) (goes_before a b os)) k ∙ elim (bool_cases (is_among b os)) [
          | inl m ↦ m ∙ sym (hit a b (ids o) (ops_ids os) (subst (λ z. Present z (ids o)) (eqb-true (head o).id a k) (own_present o)) (other b (ids o) (ops_ids os) h.disjoint (among_ids b os m)) ∙ among_ids b os m)
          | inr m ↦ m ∙ sym (ap (λ z. comes_after a z (ids o ++ ops_ids os)) (sym (eqb-true (head o).id b (first m)) ∙ eqb-true (head o).id a k) ∙ not_itself a (ids o ++ ops_ids os) d)
        ]
        | inr k ↦ ap (λ e. cond e (is_among b os) (goes_before a b os)) k ∙ (let there_a = later k in
            elim (bool_cases (is_among b os)) [
              | inl m ↦ goes_is a b os h.right there_a m ∙ sym (skip a b (ids o) (ops_ids os) (other a (ids o) (ops_ids os) h.disjoint (among_ids a os there_a)))
              | inr m ↦ never_goes a b os m ∙ sym (skip a b (ids o) (ops_ids os) (other a (ids o) (ops_ids os) h.disjoint (among_ids a os there_a))
                  ∙ never_later a b (ops_ids os) (h.disjoint b (subst (λ z. Present z (ids o)) (eqb-true (head o).id b (first m)) (own_present o))))
            ])
      ]
    where
      first : is_among b os ≡ false → eqb (head o).id b ≡ true
      first m = elim (either (eqb (head o).id b) (is_among b os) eb) [ inl k ↦ k | inr k ↦ absurd (true≢false (sym k ∙ m)) ]

      later : eqb (head o).id a ≡ false → is_among a os ≡ true
      later m = elim (either (eqb (head o).id a) (is_among a os) ea) [ inl k ↦ absurd (true≢false (sym k ∙ m)) | inr k ↦ k ]

  -- two operations in the regions of one operation
  in_region : (r : ℕ) (rs : RegionsOf N T A) (args : List T) (os : OpsOf N T A) → region_at r rs ≡ Some (block args os) → (y : ℕ) → Present y (ops_ids os) → Present y (regions_ids rs)
  in_region zero no_regions args os e y h = absurd cc
  in_region (suc r) no_regions args os e y h = absurd cc
  in_region zero (region g rs) args os e y h = (let same : g ≡ block args os = cc in in_preceding y (region_ids g) (regions_ids rs) (subst (λ (z : RegionOf N T A). Present y (region_ids z)) (sym same) h))
  in_region (suc r) (region g rs) args os e y h = in_back y (region_ids g) (regions_ids rs) (in_region r rs args os e y h)

  same_region : (r : ℕ) (rs : RegionsOf N T A) (args : List T) (os : OpsOf N T A) → region_at r rs ≡ Some (block args os) → IsDistinct eqb (regions_ids rs)
      → (a b : ℕ) → Present a (ops_ids os) → Present b (ops_ids os) → (comes_after a b (regions_ids rs) ≡ comes_after a b (ops_ids os)) × IsDistinct eqb (ops_ids os)
  same_region zero no_regions args os e d a b ha hb = absurd cc
  same_region (suc r) no_regions args os e d a b ha hb = absurd cc
  same_region zero (region g rs) args os e d a b ha hb =
      let same : g ≡ block args os = cc in
      let h = halves (region_ids g) (regions_ids rs) d in (
        cut_back a b (region_ids g) (regions_ids rs) (h.disjoint b (subst (λ (z : RegionOf N T A). Present b (region_ids z)) (sym same) hb)) ∙ ap (λ (z : RegionOf N T A). comes_after a b (region_ids z)) same,
        subst (λ (z : RegionOf N T A). IsDistinct eqb (region_ids z)) same h.left,
      )
  same_region (suc r) (region g rs) args os e d a b ha hb =
      let h = halves (region_ids g) (regions_ids rs) d in
      let later = same_region r rs args os e h.right a b ha hb in
      (skip a b (region_ids g) (regions_ids rs) (other a (region_ids g) (regions_ids rs) h.disjoint (in_region r rs args os e a ha)) ∙ later.0, later.1)

  earlier_region : (r s : ℕ) (rs : RegionsOf N T A) (args brgs : List T) (os ps : OpsOf N T A) → r < s → region_at r rs ≡ Some (block args os) → region_at s rs ≡ Some (block brgs ps) → IsDistinct eqb (regions_ids rs)
      → (a b : ℕ) → Present a (ops_ids os) → Present b (ops_ids ps) → comes_after a b (regions_ids rs) ≡ true
  earlier_region r zero rs args brgs os ps l e f d a b ha hb = absurd (omega (arith, l))
  earlier_region zero (suc s) no_regions args brgs os ps l e f d a b ha hb = absurd cc
  earlier_region (suc r) (suc s) no_regions args brgs os ps l e f d a b ha hb = absurd cc
  earlier_region zero (suc s) (region g rs) args brgs os ps l e f d a b ha hb =
      let same : g ≡ block args os = cc in
      let h = halves (region_ids g) (regions_ids rs) d in
      let trailing = in_region s rs brgs ps f b hb in
      hit a b (region_ids g) (regions_ids rs) (subst (λ (z : RegionOf N T A). Present a (region_ids z)) (sym same) ha) (other b (region_ids g) (regions_ids rs) h.disjoint trailing) ∙ trailing
  earlier_region (suc r) (suc s) (region g rs) args brgs os ps l e f d a b ha hb =
      let h = halves (region_ids g) (regions_ids rs) d in
      skip a b (region_ids g) (regions_ids rs) (other a (region_ids g) (regions_ids rs) h.disjoint (in_region r rs args os e a ha)) ∙ earlier_region r s rs args brgs os ps (omega (arith, l)) e f h.right a b ha hb

  later_region : (r s : ℕ) (rs : RegionsOf N T A) (args brgs : List T) (os ps : OpsOf N T A) → s < r → region_at r rs ≡ Some (block args os) → region_at s rs ≡ Some (block brgs ps) → IsDistinct eqb (regions_ids rs)
      → (a b : ℕ) → Present a (ops_ids os) → Present b (ops_ids ps) → comes_after a b (regions_ids rs) ≡ false
  later_region zero s rs args brgs os ps l e f d a b ha hb = absurd (omega (arith, l))
  later_region (suc r) zero no_regions args brgs os ps l e f d a b ha hb = absurd cc
  later_region (suc r) (suc s) no_regions args brgs os ps l e f d a b ha hb = absurd cc
  later_region (suc r) zero (region g rs) args brgs os ps l e f d a b ha hb =
      let same : g ≡ block brgs ps = cc in
      let h = halves (region_ids g) (regions_ids rs) d in
      skip a b (region_ids g) (regions_ids rs) (other a (region_ids g) (regions_ids rs) h.disjoint (in_region r rs args os e a ha))
      ∙ never_later a b (regions_ids rs) (h.disjoint b (subst (λ (z : RegionOf N T A). Present b (region_ids z)) (sym same) hb))
  later_region (suc r) (suc s) (region g rs) args brgs os ps l e f d a b ha hb =
      let h = halves (region_ids g) (regions_ids rs) d in
      skip a b (region_ids g) (regions_ids rs) (other a (region_ids g) (regions_ids rs) h.disjoint (in_region r rs args os e a ha)) ∙ later_region r s rs args brgs os ps (omega (arith, l)) e f h.right a b ha hb

  -- an operation of the block of a region
  pub record OfRegion (p : OpOf N T A) (r x : ℕ) : Type 0 where
    pub args : List T
    pub list : OpsOf N T A
    pub is : region_at r (regions p) ≡ Some (block args list)
    pub among : is_among x list ≡ true

  pub in_inner : (p : OpOf N T A) (r x : ℕ) → OfRegion p r x → Present x (regions_ids (regions p))
  in_inner p r x w = in_region r (regions p) w.args w.list w.is x (among_ids x w.list w.among)

  module _ (p : OpOf N T A) (d : IsDistinct eqb (regions_ids (regions p))) (r s a b : ℕ) (x : OfRegion p r a) (y : OfRegion p s b) where
    pub by_region : (r < s → comes_after a b (regions_ids (regions p)) ≡ true) × (s < r → comes_after a b (regions_ids (regions p)) ≡ false)
    by_region = (
      λ l. earlier_region r s (regions p) x.args y.args x.list y.list l x.is y.is d a b (among_ids a x.list x.among) (among_ids b y.list y.among),
      λ l. later_region r s (regions p) x.args y.args x.list y.list l x.is y.is d a b (among_ids a x.list x.among) (among_ids b y.list y.among),
    )

    pub by_list : is_among b x.list ≡ true → comes_after a b (regions_ids (regions p)) ≡ goes_before a b x.list
    by_list m =
        let w = same_region r (regions p) x.args x.list x.is d a b (among_ids a x.list x.among) (among_ids b x.list m) in
        w.0 ∙ sym (goes_is a b x.list w.1 x.among m)
