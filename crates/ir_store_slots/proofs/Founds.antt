-- The slot of an id represents the operation found under the id.
use Rattle.std.proofs.Common.{◌≡◌, ℕ, List, [], ◌∷◌, ◌++◌, refl, sym, ap, ◌∙◌, subst, Bool, true, false, eqb, ◌||◌, ⊎_elim, Option, Some, None}
use Rattle.std.specs.List.{list_any}
use Rattle.std.proofs.lemmas.Bool.{eqb-true, cases_Bool, false≢true, or_cases}
use Rattle.ir_store_arena.specs.trees.Tree.{Op, op, Regions, no_regions, region, Region, empty, block, Ops, no_ops, next}
use Rattle.ir_store_arena.specs.trees.Ids.{ids, regions_ids, region_ids, ops_ids, has_id, find, regions_find, region_find, ops_find, first_of}
use Rattle.ir_store_lists.specs.Lists.{list_at}
use Rattle.ir_store_slots.specs.Rows.{Row, RegionShape, row_at}
use Rattle.ir_store_slots.specs.Spells.{SpellsOp, SpellsRegions, SpellsRegion, SpellsOps}
use Rattle.ir_store_slots.specs.Right.{Live}
use Rattle.ir_store_slots.proofs.Mapped.{has_op, has_regions, has_region, has_ops, neither}
use Rattle.std.proofs.lemmas.List.Folds.{list_any-append}
use Rattle.ir_store_arena.proofs.of_trees.of_types.Truths.{either}

-- the two ways to say that an operation is in the tree
module _ (x : ℕ) where
  mutual
    pub has_is : (t : Op) → has_op x t ≡ has_id x t
    has_is (op h rs) = ap (λ b. eqb h.id x || b) (has_is_regions rs)

    pub has_is_regions : (rs : Regions) → has_regions x rs ≡ list_any (λ y. eqb y x) (regions_ids rs)
    has_is_regions no_regions = refl
    has_is_regions (region g rs) = (λ i. has_is_region g i || has_is_regions rs i) ∙ sym (list_any-append (λ y. eqb y x) (region_ids g) (regions_ids rs))

    has_is_region : (g : Region) → has_region x g ≡ list_any (λ y. eqb y x) (region_ids g)
    has_is_region empty = refl
    has_is_region (block args os) = has_is_ops os

    has_is_ops : (os : Ops) → has_ops x os ≡ list_any (λ y. eqb y x) (ops_ids os)
    has_is_ops no_ops = refl
    has_is_ops (next o os) = (λ i. has_is o i || has_is_ops os i) ∙ sym (list_any-append (λ y. eqb y x) (ids o) (ops_ids os))

module _ (slots : List Row) (lists : List (List ℕ)) where
  abbrev pub Spelt : ℕ → Option Op → Type 0
  Spelt k None = ⊥
  Spelt k (Some o) = SpellsOp slots lists k o

  left_spelt : (k : ℕ) (a b : Option Op) → Spelt k a → Spelt k (first_of a b)
  left_spelt k None b s = absurd s
  left_spelt k (Some o) b s = s

  pub none_first_of : (a b : Option Op) → a ≡ None → first_of a b ≡ b
  none_first_of a b e = rw e refl

  module _ (x : ℕ) where
    mutual
      pub not_found : (t : Op) → has_op x t ≡ false → find x t ≡ None
      not_found (op h rs) e = let b = neither (eqb h.id x) (has_regions x rs) e in rw b.0 (not_found_regions rs b.1)

      not_found_regions : (rs : Regions) → has_regions x rs ≡ false → regions_find x rs ≡ None
      not_found_regions no_regions e = refl
      not_found_regions (region g rs) e = let b = neither (has_region x g) (has_regions x rs) e in rw (not_found_region g b.0) (not_found_regions rs b.1)

      not_found_region : (g : Region) → has_region x g ≡ false → region_find x g ≡ None
      not_found_region empty e = refl
      not_found_region (block args os) e = not_found_ops os e

      not_found_ops : (os : Ops) → has_ops x os ≡ false → ops_find x os ≡ None
      not_found_ops no_ops e = refl
      not_found_ops (next o os) e = let b = neither (has_op x o) (has_ops x os) e in rw (not_found o b.0) (not_found_ops os b.1)

  module _ (x k : ℕ) (only : (q : ℕ) → Live slots q → (row_at slots q).head.id ≡ x → q ≡ k) where
    mutual
      -- slot k represents the found operation
      pub find_spelt : (q : ℕ) (t : Op) → SpellsOp slots lists q t → has_op x t ≡ true → Spelt k (find x t)
      find_spelt q (op h rs) s e = ⊎_elim
          (λ y.
          let at_k : q ≡ k = only q (record { live = s.0 }) (ap (λ z. z.id) s.1.0 ∙ eqb-true h.id x y) in
          rw y (subst (λ z. SpellsOp slots lists z (op h rs)) at_k s))
          (λ n. rw n (find_regions (row_at slots q).shapes rs s.1.1 (either (eqb h.id x) (has_regions x rs) e n)))
          (cases_Bool (eqb h.id x))

      find_regions : (xs : List RegionShape) (rs : Regions) → SpellsRegions slots lists xs rs → has_regions x rs ≡ true → Spelt k (regions_find x rs)
      find_regions xs no_regions s e = absurd (false≢true e)
      find_regions [] (region g rs) s e = absurd s
      find_regions (a ∷ xs) (region g rs) s e = ⊎_elim
          (λ y. left_spelt k (region_find x g) (regions_find x rs) (find_region a g s.0 y))
          (λ n. rw (none_first_of (region_find x g) (regions_find x rs) (not_found_region x g n)) (find_regions xs rs s.1 (either (has_region x g) (has_regions x rs) e n)))
          (cases_Bool (has_region x g))

      find_region : (a : RegionShape) (g : Region) → SpellsRegion slots lists a g → has_region x g ≡ true → Spelt k (region_find x g)
      find_region None empty s e = absurd (false≢true e)
      find_region None (block args os) s e = absurd s
      find_region (Some a) empty s e = absurd s
      find_region (Some a) (block args os) s e = find_ops (list_at lists a.1) os s.1 e

      find_ops : (ks : List ℕ) (os : Ops) → SpellsOps slots lists ks os → has_ops x os ≡ true → Spelt k (ops_find x os)
      find_ops ks no_ops s e = absurd (false≢true e)
      find_ops [] (next o os) s e = absurd s
      find_ops (q ∷ ks) (next o os) s e = ⊎_elim
          (λ y. left_spelt k (find x o) (ops_find x os) (find_spelt q o s.0 y))
          (λ n. rw (none_first_of (find x o) (ops_find x os) (not_found x o n)) (find_ops ks os s.1 (either (has_op x o) (has_ops x os) e n)))
          (cases_Bool (has_op x o))

  -- an operation of the tree has a slot
  abbrev pub HasSlot : ℕ → Type 0
  HasSlot x = (k : ℕ) × (Live slots k × ((row_at slots k).head.id ≡ x))

  mutual
    pub has_live : (x q : ℕ) (t : Op) → SpellsOp slots lists q t → has_op x t ≡ true → HasSlot x
    has_live x q (op h rs) s e = ⊎_elim
        (λ y. (q, (record { live = s.0 }, ap (λ z. z.id) s.1.0 ∙ eqb-true h.id x y)))
        (λ y. regions_live x (row_at slots q).shapes rs s.1.1 y)
        (or_cases (eqb h.id x) (has_regions x rs) e)

    regions_live : (x : ℕ) (xs : List RegionShape) (rs : Regions) → SpellsRegions slots lists xs rs → has_regions x rs ≡ true → HasSlot x
    regions_live x xs no_regions s e = absurd (false≢true e)
    regions_live x [] (region g rs) s e = absurd s
    regions_live x (a ∷ xs) (region g rs) s e = ⊎_elim (λ y. region_live x a g s.0 y) (λ y. regions_live x xs rs s.1 y) (or_cases (has_region x g) (has_regions x rs) e)

    region_live : (x : ℕ) (a : RegionShape) (g : Region) → SpellsRegion slots lists a g → has_region x g ≡ true → HasSlot x
    region_live x None empty s e = absurd (false≢true e)
    region_live x None (block args os) s e = absurd s
    region_live x (Some a) empty s e = absurd s
    region_live x (Some a) (block args os) s e = ops_live x (list_at lists a.1) os s.1 e

    ops_live : (x : ℕ) (ks : List ℕ) (os : Ops) → SpellsOps slots lists ks os → has_ops x os ≡ true → HasSlot x
    ops_live x ks no_ops s e = absurd (false≢true e)
    ops_live x [] (next o os) s e = absurd s
    ops_live x (q ∷ ks) (next o os) s e = ⊎_elim (λ y. has_live x q o s.0 y) (λ y. ops_live x ks os s.1 y) (or_cases (has_op x o) (has_ops x os) e)
