-- The trees that slots represent after heads, lists or rows have changed.
use Rattle.std.proofs.Common.{◌≡◌, ℕ, suc, ◌+◌, List, [], ◌∷◌, refl, sym, ap, ◌∙◌, subst, Bool, true, false, eqb, ◌||◌, arith, Some, None, slice_get}
use Rattle.std.proofs.lemmas.Bool.{eqb-false, false≢true}
use Rattle.ir_store_arena.specs.trees.Tree.{Head, Op, op, Regions, no_regions, region, Region, empty, block, Ops, no_ops, next}
use Rattle.ir_store_arena.specs.trees.Edits.{each_head, regions_each_head, region_each_head, ops_each_head}
use Rattle.ir_store_arena.specs.trees.Places.{each_list, regions_each_list, region_each_list, ops_each_list}
use Rattle.ir_store_lists.specs.Lists.{list_at}
use Rattle.ir_store_slots.specs.Rows.{Row, RegionShape, row_at}
use Rattle.ir_store_slots.specs.Spells.{SpellsOp, SpellsRegions, SpellsRegion, SpellsOps}
use Rattle.ir_store_slots.specs.Right.{Live}

-- whether an operation of the tree has id x
abbrev mutual
  pub has_op : ℕ → Op → Bool
  has_op x (op h rs) = eqb h.id x || has_regions x rs

  pub has_regions : ℕ → Regions → Bool
  has_regions x no_regions = false
  has_regions x (region g rs) = has_region x g || has_regions x rs

  pub has_region : ℕ → Region → Bool
  has_region x empty = false
  has_region x (block args os) = has_ops x os

  pub has_ops : ℕ → Ops → Bool
  has_ops x no_ops = false
  has_ops x (next o os) = has_op x o || has_ops x os

pub neither : (a b : Bool) → (a || b) ≡ false → (a ≡ false) × (b ≡ false)
neither true b e = absurd (false≢true (sym e))
neither false b e = (refl, e)

-- the row of each operation after an edit of heads
pub record Step (slots slots' : List Row) (f : Head → Head) (k : ℕ) : Type 0 where
  pub live : (row_at slots' k).live ≡ true
  pub shapes : (row_at slots' k).shapes ≡ (row_at slots k).shapes
  pub head : (row_at slots' k).head ≡ f (row_at slots k).head

module _ (slots slots' : List Row) (f : Head → Head) (lists : List (List ℕ)) (step : (k : ℕ) → Live slots k → Step slots slots' f k) where
  mutual
    pub map_spells : (k : ℕ) (t : Op) → SpellsOp slots lists k t → SpellsOp slots' lists k (each_head f t)
    map_spells k (op h rs) s =
        let p = step k (record { live = s.0 }) in
        (p.live, (p.head ∙ ap f s.1.0, subst (λ z. SpellsRegions slots' lists z (regions_each_head f rs)) (sym p.shapes) (maps_regions (row_at slots k).shapes rs s.1.1)))

    maps_regions : (xs : List RegionShape) (rs : Regions) → SpellsRegions slots lists xs rs → SpellsRegions slots' lists xs (regions_each_head f rs)
    maps_regions [] no_regions s = tt
    maps_regions [] (region g rs) s = absurd s
    maps_regions (a ∷ xs) no_regions s = absurd s
    maps_regions (a ∷ xs) (region g rs) s = (maps_region a g s.0, maps_regions xs rs s.1)

    maps_region : (a : RegionShape) (g : Region) → SpellsRegion slots lists a g → SpellsRegion slots' lists a (region_each_head f g)
    maps_region None empty s = tt
    maps_region None (block args os) s = absurd s
    maps_region (Some a) empty s = absurd s
    maps_region (Some a) (block args os) s = (s.0, maps_ops (list_at lists a.1) os s.1)

    maps_ops : (ks : List ℕ) (os : Ops) → SpellsOps slots lists ks os → SpellsOps slots' lists ks (ops_each_head f os)
    maps_ops [] no_ops s = tt
    maps_ops [] (next o os) s = absurd s
    maps_ops (k ∷ ks) no_ops s = absurd s
    maps_ops (k ∷ ks) (next o os) s = (map_spells k o s.0, maps_ops ks os s.1)

-- lists have changed
module _ (slots : List Row) (lists lists' : List (List ℕ)) (f : ℕ → ℕ → Ops → Ops)
    (step : (k r : ℕ) (a : List ℕ × ℕ) (os : Ops) → Live slots k → slice_get (row_at slots k).shapes r ≡ Some (Some a) → SpellsOps slots lists' (list_at lists a.1) os
    → SpellsOps slots lists' (list_at lists' a.1) (f (row_at slots k).head.id r os)) where
  mutual
    pub lists_spells : (k : ℕ) (t : Op) → SpellsOp slots lists k t → SpellsOp slots lists' k (each_list f t)
    lists_spells k (op h rs) s = (
      s.0,
      (
        s.1.0,
        subst (λ p. SpellsRegions slots lists' (row_at slots k).shapes (regions_each_list f p 0 rs)) (ap (λ z. z.id) s.1.0)
            (lists_regions k (record { live = s.0 }) 0 (row_at slots k).shapes rs (λ i. ap (slice_get (row_at slots k).shapes) (omega arith)) s.1.1),
      ),
    )

    lists_regions : (k : ℕ) → Live slots k → (r : ℕ) (xs : List RegionShape) (rs : Regions) → ((i : ℕ) → slice_get xs i ≡ slice_get (row_at slots k).shapes (i + r)) → SpellsRegions slots lists xs rs
        → SpellsRegions slots lists' xs (regions_each_list f (row_at slots k).head.id r rs)
    lists_regions k l r [] no_regions e s = tt
    lists_regions k l r [] (region g rs) e s = absurd s
    lists_regions k l r (a ∷ xs) no_regions e s = absurd s
    lists_regions k l r (a ∷ xs) (region g rs) e s = (
      lists_region k l r a g (ap (slice_get (row_at slots k).shapes) (omega arith) ∙ sym (e 0)) s.0,
      lists_regions k l (r + 1) xs rs (λ i. e (suc i) ∙ ap (slice_get (row_at slots k).shapes) (omega arith)) s.1,
    )

    lists_region : (k : ℕ) → Live slots k → (r : ℕ) (a : RegionShape) (g : Region) → slice_get (row_at slots k).shapes r ≡ Some a → SpellsRegion slots lists a g
        → SpellsRegion slots lists' a (region_each_list f (row_at slots k).head.id r g)
    lists_region k l r None empty e s = tt
    lists_region k l r None (block args os) e s = absurd s
    lists_region k l r (Some a) empty e s = absurd s
    lists_region k l r (Some a) (block args os) e s = (s.0, step k r a (ops_each_list f os) l e (lists_ops (list_at lists a.1) os s.1))

    lists_ops : (ks : List ℕ) (os : Ops) → SpellsOps slots lists ks os → SpellsOps slots lists' ks (ops_each_list f os)
    lists_ops [] no_ops s = tt
    lists_ops [] (next o os) s = absurd s
    lists_ops (k ∷ ks) no_ops s = absurd s
    lists_ops (k ∷ ks) (next o os) s = (lists_spells k o s.0, lists_ops ks os s.1)

-- a row whose operation isn't in the tree has changed
module _ (slots slots' : List Row) (lists : List (List ℕ)) (x : ℕ) (same : (q : ℕ) → Live slots q → ((row_at slots q).head.id ≡ x → ⊥) → row_at slots' q ≡ row_at slots q) where
  mutual
    pub rows_spells : (k : ℕ) (t : Op) → has_op x t ≡ false → SpellsOp slots lists k t → SpellsOp slots' lists k t
    rows_spells k (op h rs) n s =
        let b = neither (eqb h.id x) (has_regions x rs) n in
        let row = same k (record { live = s.0 }) (λ e. eqb-false h.id x b.0 (sym (ap (λ z. z.id) s.1.0) ∙ e)) in
        (ap (λ z. z.live) row ∙ s.0, (ap (λ z. z.head) row ∙ s.1.0, subst (λ z. SpellsRegions slots' lists z rs) (sym (ap (λ z. z.shapes) row)) (rows_regions (row_at slots k).shapes rs b.1 s.1.1)))

    rows_regions : (xs : List RegionShape) (rs : Regions) → has_regions x rs ≡ false → SpellsRegions slots lists xs rs → SpellsRegions slots' lists xs rs
    rows_regions [] no_regions n s = tt
    rows_regions [] (region g rs) n s = absurd s
    rows_regions (a ∷ xs) no_regions n s = absurd s
    rows_regions (a ∷ xs) (region g rs) n s = let b = neither (has_region x g) (has_regions x rs) n in (rows_region a g b.0 s.0, rows_regions xs rs b.1 s.1)

    rows_region : (a : RegionShape) (g : Region) → has_region x g ≡ false → SpellsRegion slots lists a g → SpellsRegion slots' lists a g
    rows_region None empty n s = tt
    rows_region None (block args os) n s = absurd s
    rows_region (Some a) empty n s = absurd s
    rows_region (Some a) (block args os) n s = (s.0, rows_ops (list_at lists a.1) os n s.1)

    pub rows_ops : (ks : List ℕ) (os : Ops) → has_ops x os ≡ false → SpellsOps slots lists ks os → SpellsOps slots' lists ks os
    rows_ops [] no_ops n s = tt
    rows_ops [] (next o os) n s = absurd s
    rows_ops (k ∷ ks) no_ops n s = absurd s
    rows_ops (k ∷ ks) (next o os) n s = let b = neither (has_op x o) (has_ops x os) n in (rows_spells k o b.0 s.0, rows_ops ks os b.1 s.1)
