-- The ids of the tree that slots represent are appended one after another.
use Rattle.std.proofs.Common.{◌≡◌, ◌<◌, ℕ, List, [], ◌∷◌, ◌++◌, refl, sym, ap, ◌∙◌, subst, append_assoc, append-nil, Option, None, Some, true, map, length, slice_get, arith}
use Rattle.ir_store_slots.specs.trees.Tree.{op, no_regions, region, empty, block, no_ops, next}
use Rattle.ir_store_slots.specs.trees.Ids.{ids, region_ids, regions_ids, ops_ids}
use Rattle.ir_store_slots.specs.Lists.{Once, list_at, after}
use Rattle.ir_store_slots.specs.RegionData.{RegionData}
use Rattle.ir_store_slots.specs.Rows.{Row, RegionShape, row_at, shape_of}
use Rattle.ir_store_slots.specs.Plans.{AllHeads}
use Rattle.ir_store_slots.specs.Walks.{from_slot}
use Rattle.ir_store_reads.specs.Added.{AddsOp, AddsRegions, AddsOps}
use Rattle.ir_store_slots.proofs.Walked.{Walks, goes, from_first, walk_start, walk_on, walk_less}

-- an empty list
pub is_none : (xs : List RegionData) → length xs < 1 → xs ≡ []
is_none [] l = refl
is_none (x ∷ xs) l = absurd (omega (arith, l))

module _ (slots : List Row) (lists : List (List ℕ)) where
  -- an operation, followed by those inside it
  pub added_op : (k : ℕ) (a b c : List ℕ) (x : ℕ) → x ≡ (row_at slots k).head.id → b ≡ a ++ x ∷ [] → AddsRegions slots lists (row_at slots k).shapes b c → AddsOp slots lists k a c
  added_op k a b c x e f g (op h rs) s =
      g rs s.1.1
      ∙ ap (λ z. z ++ regions_ids rs) (f ∙ ap (λ z. a ++ z ∷ []) (e ∙ ap (λ z. z.id) s.1.0))
      ∙ append_assoc a (h.id ∷ []) (regions_ids rs)

  -- nothing
  pub adds_none : (a : List ℕ) → AddsRegions slots lists [] a a
  adds_none a no_regions s = sym (append-nil a)
  adds_none a (region g rs) s = absurd s

  pub adds_empty : (a : List ℕ) → AddsRegions slots lists (None ∷ []) a a
  adds_empty a no_regions s = absurd s
  adds_empty a (region empty no_regions) s = sym (append-nil a)
  adds_empty a (region empty (region g rs)) s = absurd s.1
  adds_empty a (region (block args os) rs) s = absurd s.0

  pub adds_nobody : (a : List ℕ) → AddsOps slots lists [] a a
  adds_nobody a no_ops s = sym (append-nil a)
  adds_nobody a (next o os) s = absurd s

  -- the operations in the list of a region's block
  pub adds_block : (x : List ℕ × ℕ) (a b : List ℕ) → AddsOps slots lists (list_at lists x.1) a b → AddsRegions slots lists (Some x ∷ []) a b
  adds_block x a b f no_regions s = absurd s
  adds_block x a b f (region empty rs) s = absurd s.0
  adds_block x a b f (region (block args os) no_regions) s = f os s.0.1 ∙ ap (λ z. a ++ z) (sym (append-nil (ops_ids os)))
  adds_block x a b f (region (block args os) (region g rs)) s = absurd s.1

  -- a region, followed by the others
  pub adds_region : (x : RegionShape) (xs : List RegionShape) (a b c : List ℕ) → AddsRegions slots lists (x ∷ []) a b → AddsRegions slots lists xs b c → AddsRegions slots lists (x ∷ xs) a c
  adds_region x xs a b c f g no_regions s = absurd s
  adds_region x xs a b c f g (region r rs) s =
      let first : b ≡ a ++ region_ids r = f (region r no_regions) (s.0, tt) ∙ ap (λ z. a ++ z) (append-nil (region_ids r)) in
      g rs s.1 ∙ ap (λ z. z ++ regions_ids rs) first ∙ append_assoc a (region_ids r) (regions_ids rs)

  -- an operation, followed by the others
  pub adds_op : (k : ℕ) (ks : List ℕ) (a b c : List ℕ) → AddsOp slots lists k a b → AddsOps slots lists ks b c → AddsOps slots lists (k ∷ ks) a c
  adds_op k ks a b c f g no_ops s = absurd s
  adds_op k ks a b c f g (next o os) s = g os s.1 ∙ ap (λ z. z ++ ops_ids os) (f o s.0) ∙ append_assoc a (ids o) (ops_ids os)

-- the heads of the blocks after the first
others : (homes : List ℕ) (x : RegionShape) (xs : List RegionShape) → AllHeads homes (x ∷ xs) → AllHeads homes xs
others homes None xs h = h
others homes (Some a) xs h = h.1

module _ (slots : List Row) (lists : List (List ℕ)) where
  -- a loop over regions: if the rest of the loop appends the rest of the ids, the whole loop appends all
  abbrev pub LeftRegions : List ℕ → List RegionData → List RegionData → List ℕ → List ℕ → Type 0
  LeftRegions homes areas rest a b = AllHeads homes (map shape_of rest) × ((z : List ℕ) → AddsRegions slots lists (map shape_of rest) b z → AddsRegions slots lists (map shape_of areas) a z)

  pub region_step : (homes : List ℕ) (areas rest tail : List RegionData) (x : RegionData) (a b c : List ℕ) → rest ≡ x ∷ tail → AddsRegions slots lists (shape_of x ∷ []) b c → LeftRegions homes areas rest a b → LeftRegions homes areas tail a c
  region_step homes areas rest tail x a b c e one f =
      let g = subst (λ l. LeftRegions homes areas l a b) e f in
      (others homes (shape_of x) (map shape_of tail) g.0, λ z more. g.1 z (adds_region slots lists (shape_of x) (map shape_of tail) b c z one more))

  pub regions_done : (homes : List ℕ) (areas rest : List RegionData) (a b : List ℕ) → length rest < 1 → LeftRegions homes areas rest a b → AddsRegions slots lists (map shape_of areas) a b
  regions_done homes areas [] a b l f = f.1 b (adds_none slots lists b)
  regions_done homes areas (x ∷ rest) a b l f = absurd (omega (arith, l))

  -- a loop over a list: if the rest of the loop appends the ids from one slot on, the whole loop appends all
  module _ (h : ℕ) where
    abbrev pub LeftSlots : Option ℕ → List ℕ → List ℕ → Type 0
    LeftSlots at a b = Walks lists (λ k. true) h at × ((z : List ℕ) → AddsOps slots lists (from_slot at (list_at lists h)) b z → AddsOps slots lists (list_at lists h) a z)

    pub slots_start : (at : Option ℕ) (a : List ℕ) → at ≡ slice_get (list_at lists h) 0 → LeftSlots at a a
    slots_start at a e = (walk_start lists (λ k. true) h at e, λ z f. subst (λ l. AddsOps slots lists l a z) (ap (λ o. from_slot o (list_at lists h)) e ∙ from_first (list_at lists h)) f)

    pub slots_step : Once (list_at lists h) → (k : ℕ) (at by : Option ℕ) (a b c : List ℕ) → at ≡ Some k → by ≡ after k (list_at lists h) → AddsOp slots lists k b c → LeftSlots at a b → LeftSlots by a c
    slots_step once k at by a b c e n one f =
        let w : LeftSlots (Some k) a b = subst (λ o. LeftSlots o a b) e f in
        let g = goes k (list_at lists h) once (w.0.there k refl) in (
          walk_on lists (λ k. true) h once k w.0 refl by n,
          λ z more. w.1 z (subst (λ l. AddsOps slots lists l b z) (sym g.is) (adds_op slots lists k g.rest b c z one (subst (λ l. AddsOps slots lists l c z) (ap (λ o. from_slot o (list_at lists h)) n ∙ g.later) more))),
        )

    pub slots_less : Once (list_at lists h) → (k : ℕ) (at by : Option ℕ) (a b : List ℕ) → at ≡ Some k → by ≡ after k (list_at lists h) → LeftSlots at a b → length (from_slot by (list_at lists h)) < length (from_slot at (list_at lists h))
    slots_less once k at by a b e n f =
        subst (λ o. length (from_slot by (list_at lists h)) < length (from_slot o (list_at lists h))) (sym e) (walk_less lists (λ k. true) h once k (subst (λ o. Walks lists (λ k. true) h o) e f.0) by n)

    pub slots_done : (at : Option ℕ) (a b : List ℕ) → at ≡ None → LeftSlots at a b → AddsOps slots lists (list_at lists h) a b
    slots_done at a b e f = f.1 b (subst (λ o. AddsOps slots lists (from_slot o (list_at lists h)) b b) (sym e) (adds_nobody slots lists b))
