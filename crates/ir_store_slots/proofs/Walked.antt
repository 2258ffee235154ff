-- A walk over the slots of a tree, and the depth of the tree.
use Rattle.std.proofs.Common.{◌≡◌, ℕ, zero, suc, ◌+◌, ◌-◌, ◌<◌, List, [], ◌∷◌, refl, sym, ap, ◌∙◌, length, Bool, true, false, eqb, ◌&&◌, ◌||◌, ⊎_elim, arith, Option, Some, None, slice_get, max}
use Rattle.std.specs.Prelude.{nat_le, nat_lt, if◌then◌else◌}
use Rattle.std.specs.List.{list_all}
use Rattle.std.proofs.lemmas.Bool.{false≢true, cond-true, cond-false, eq-eqb, ne_eqb, or_left, or_right, cases_eq, cases_lt, eqb-true}
use Rattle.std.proofs.lemmas.Bool.Decides.{nat_tests}
use Rattle.std.proofs.lemmas.List.{get_or_past}
use Rattle.ir_store_lists.specs.Lists.{free, Once, Laws, IsHead, IsItem, list_at, has, after}
use Rattle.ir_store_arena.specs.trees.Tree.{Op, op, Regions, no_regions, region, empty, block, Ops, no_ops, next}
use Rattle.ir_store_arena.specs.trees.Limits.{depth, regions_depth, ops_depth}
use Rattle.ir_store_slots.specs.Rows.{Row, RegionShape, row_at}
use Rattle.ir_store_slots.specs.Spells.{SpellsOp, SpellsRegions, SpellsOps}
use Rattle.ir_store_slots.specs.Walks.{shapes_pass, slot_fits, from_slot}
use Rattle.ir_store_arena.proofs.of_trees.Counts.{below_none}
use Rattle.ir_store_arena.proofs.of_trees.of_types.Truths.{zero_le}

-- a list from its first slot on is the list
pub from_first : (ks : List ℕ) → from_slot (slice_get ks 0) ks ≡ ks
from_first [] = refl
from_first (k ∷ ks) = cond-true (eqb k k) (k ∷ ks) (from_slot (Some k) ks) (eq-eqb k k refl)

-- the rest of a list from a slot on starts with the slot, followed by the rest from the next slot on
pub record Goes (k : ℕ) (ks : List ℕ) : Type 0 where
  pub rest : List ℕ
  pub is : from_slot (Some k) ks ≡ k ∷ rest
  pub later : from_slot (after k ks) ks ≡ rest

pub after_in : (k m : ℕ) (ks : List ℕ) → after k ks ≡ Some m → has m ks ≡ true
after_in k m [] e = absurd cc
after_in k m (x ∷ xs) e = go (eqb x k) refl e (after_in k m xs)
  where
    first : (ys : List ℕ) → slice_get ys 0 ≡ Some m → has m ys ≡ true
    first [] f = absurd cc
    first (y ∷ ys) f = let same : y ≡ m = cc in or_left (eqb y m) (has m ys) (eq-eqb y m same)

    go : (b : Bool) → eqb x k ≡ b → (if b then slice_get xs 0 else after k xs) ≡ Some m → (after k xs ≡ Some m → has m xs ≡ true) → (eqb x m || has m xs) ≡ true
    go true f g later = or_right (eqb x m) (has m xs) (first xs g)
    go false f g later = or_right (eqb x m) (has m xs) (later g)

pub goes : (k : ℕ) (ks : List ℕ) → Once ks → has k ks ≡ true → Goes k ks
goes k [] u e = absurd (false≢true e)
goes k (q ∷ ks) u e = go (eqb q k) refl e (goes k ks u.1)
  where
    apart : (m : ℕ) → has m ks ≡ true → eqb q m ≡ false
    apart m i = ⊎_elim (λ z. absurd (false≢true (sym u.0 ∙ ap (λ w. has w ks) z ∙ i))) (λ n. ne_eqb q m n) (cases_eq q m)

    skip : (n : Option ℕ) → ((m : ℕ) → n ≡ Some m → has m ks ≡ true) → from_slot n (q ∷ ks) ≡ from_slot n ks
    skip None f = refl
    skip (Some m) f = cond-false (eqb q m) (q ∷ ks) (from_slot (Some m) ks) (apart m (f m refl))

    head_in : (m : ℕ) (ls : List ℕ) → slice_get ls 0 ≡ Some m → has m ls ≡ true
    head_in m [] f = absurd cc
    head_in m (y ∷ ys) f = let same : y ≡ m = cc in or_left (eqb y m) (has m ys) (eq-eqb y m same)

    go : (b : Bool) → eqb q k ≡ b → (b || has k ks) ≡ true → (has k ks ≡ true → Goes k ks) → Goes k (q ∷ ks)
    go true f g extra = record {
      rest = ks;
      is = cond-true (eqb q k) (q ∷ ks) (from_slot (Some k) ks) f ∙ ap (λ z. z ∷ ks) (eqb-true q k f);
      later = ap (λ z. from_slot z (q ∷ ks)) (cond-true (eqb q k) (slice_get ks 0) (after k ks) f) ∙ skip (slice_get ks 0) (λ m i. head_in m ks i) ∙ from_first ks;
    }
    go false f g extra =
        let w = extra g in
        record {
          rest = w.rest;
          is = cond-false (eqb q k) (q ∷ ks) (from_slot (Some k) ks) f ∙ w.is;
          later = ap (λ z. from_slot z (q ∷ ks)) (cond-false (eqb q k) (slice_get ks 0) (after k ks) f) ∙ skip (after k ks) (λ m i. after_in k m ks i) ∙ w.later;
        }

-- a slot of a list is linked
pub listed_item : (lists : List (List ℕ)) (homes : List ℕ) → Laws lists homes → (h k : ℕ) → IsHead homes h → has k (list_at lists h) ≡ true → IsItem homes k
listed_item lists homes laws h k p e =
    let m = laws.members h k e in
    let few = laws.few in
    let i : h < length homes = p.inside in
    record {
      inside = ⊎_elim (λ l. l) (λ g. let f : h ≡ free = sym m.0 ∙ get_or_past homes k free g in absurd (omega arith)) (cases_lt k (length homes));
      linked = λ g. (let f : h ≡ free = sym m.0 ∙ g in omega arith);
      other = λ g. m.1 (sym g ∙ m.0);
    }

-- the invariant of a loop over a list
pub record Walks (lists : List (List ℕ)) (p : ℕ → Bool) (h : ℕ) (at : Option ℕ) : Type 0 where
  pub all : list_all p (from_slot at (list_at lists h)) ≡ list_all p (list_at lists h)
  pub there : (k : ℕ) → at ≡ Some k → has k (list_at lists h) ≡ true

module _ (lists : List (List ℕ)) (p : ℕ → Bool) (h : ℕ) where
  pub walk_start : (at : Option ℕ) → at ≡ slice_get (list_at lists h) 0 → Walks lists p h at
  walk_start at e = record { all = ap (λ z. list_all p (from_slot z (list_at lists h))) e ∙ ap (list_all p) (from_first (list_at lists h)); there = λ k f. head_in k (list_at lists h) (sym e ∙ f) }
    where
      head_in : (m : ℕ) (ls : List ℕ) → slice_get ls 0 ≡ Some m → has m ls ≡ true
      head_in m [] f = absurd cc
      head_in m (y ∷ ys) f = let same : y ≡ m = cc in or_left (eqb y m) (has m ys) (eq-eqb y m same)

  module _ (once : Once (list_at lists h)) (k : ℕ) (w : Walks lists p h (Some k)) where
    g : Goes k (list_at lists h)
    g = goes k (list_at lists h) once (w.there k refl)

    pub walk_stops : p k ≡ false → list_all p (list_at lists h) ≡ false
    walk_stops e = sym w.all ∙ ap (list_all p) g.is ∙ ap (λ b. b && list_all p g.rest) e

    pub walk_on : p k ≡ true → (at : Option ℕ) → at ≡ after k (list_at lists h) → Walks lists p h at
    walk_on e at f = record {
      all = ap (λ z. list_all p (from_slot z (list_at lists h))) f ∙ ap (list_all p) g.later ∙ sym (ap (λ b. b && list_all p g.rest) e) ∙ sym (ap (list_all p) g.is) ∙ w.all;
      there = λ m i. after_in k m (list_at lists h) (sym f ∙ i);
    }

    pub walk_less : (at : Option ℕ) → at ≡ after k (list_at lists h) → length (from_slot at (list_at lists h)) < length (from_slot (Some k) (list_at lists h))
    walk_less at f =
        let a : length (from_slot at (list_at lists h)) ≡ length g.rest = ap (λ z. length (from_slot z (list_at lists h))) f ∙ ap length g.later in
        let b : length (from_slot (Some k) (list_at lists h)) ≡ length g.rest + 1 = ap length g.is ∙ omega arith in
        omega arith

-- the depth so far
le_max : (a b n : ℕ) → nat_le (max a b) n ≡ (nat_le a n && nat_le b n)
le_max a b n = grind (arith, nat_tests)

lt_le : (d b m : ℕ) → (nat_lt d m && nat_le b m) ≡ nat_le (max (d + 1) b) m
lt_le d b m = grind (arith, nat_tests)

le_lt : (d m : ℕ) → nat_le d m ≡ nat_lt d (suc m)
le_lt d m = grind (arith, nat_tests)

module _ (slots : List Row) (lists : List (List ℕ)) where
  mutual
    pub fits_is : (n k : ℕ) (t : Op) → SpellsOp slots lists k t → slot_fits slots lists n k ≡ nat_lt (depth t) n
    fits_is zero k (op h rs) s = sym (below_none (regions_depth rs))
    fits_is (suc n) k (op h rs) s = (λ i. s.0 i && regions_fit n (row_at slots k).shapes rs s.1.1 i) ∙ le_lt (regions_depth rs) n

    regions_fit : (n : ℕ) (xs : List RegionShape) (rs : Regions) → SpellsRegions slots lists xs rs → shapes_pass lists (slot_fits slots lists n) xs ≡ nat_le (regions_depth rs) n
    regions_fit n [] no_regions s = sym (zero_le n)
    regions_fit n [] (region g rs) s = absurd s
    regions_fit n (a ∷ xs) no_regions s = absurd s
    regions_fit n (None ∷ xs) (region empty rs) s = regions_fit n xs rs s.1 ∙ sym (le_max 0 (regions_depth rs) n ∙ ap (λ b. b && nat_le (regions_depth rs) n) (zero_le n))
    regions_fit n (None ∷ xs) (region (block args os) rs) s = absurd s.0
    regions_fit n (Some a ∷ xs) (region empty rs) s = absurd s.0
    regions_fit n (Some a ∷ xs) (region (block args os) rs) s = (λ i. ops_fit n (list_at lists a.1) os s.0.1 i && regions_fit n xs rs s.1 i) ∙ sym (le_max (ops_depth os) (regions_depth rs) n)

    ops_fit : (n : ℕ) (ks : List ℕ) (os : Ops) → SpellsOps slots lists ks os → list_all (slot_fits slots lists n) ks ≡ nat_le (ops_depth os) n
    ops_fit n [] no_ops s = sym (zero_le n)
    ops_fit n [] (next o os) s = absurd s
    ops_fit n (k ∷ ks) no_ops s = absurd s
    ops_fit n (k ∷ ks) (next o os) s = (λ i. fits_is n k o s.0 i && ops_fit n ks os s.1 i) ∙ lt_le (depth o) (ops_depth os) n

-- a slot whose row is read, if there are levels left
pub fits_row : (slots : List Row) (lists : List (List ℕ)) (headroom k : ℕ) → (headroom ≡ 0 → ⊥) → (row_at slots k).live ≡ true → slot_fits slots lists headroom k ≡ shapes_pass lists (slot_fits slots lists (headroom - 1)) (row_at slots k).shapes
fits_row slots lists zero k n l = absurd (n refl)
fits_row slots lists (suc m) k n l =
    let e : m ≡ suc m - 1 = omega arith in
    ap (λ b. b && shapes_pass lists (slot_fits slots lists m) (row_at slots k).shapes) l ∙ ap (λ z. shapes_pass lists (slot_fits slots lists z) (row_at slots k).shapes) e
