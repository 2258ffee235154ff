-- A block that is added to a slot.
use Rattle.std.proofs.Common.{◌≡◌, ℕ, zero, suc, ◌+◌, ◌<◌, ◌≤◌, List, [], ◌∷◌, ◌++◌, refl, sym, ap, ◌∙◌, subst, length, true, ⊎_elim, arith, Some, None, slice_get}
use Rattle.std.proofs.lemmas.Bool.{cases_lt, cases_eq}
use Rattle.std.proofs.lemmas.List.{get_or_past}
use Rattle.ir_store_lists.specs.Lists.{Lists, home_at}
use Rattle.ir_store_slots.specs.Rows.{Row, RegionShape, row_at}
use Rattle.ir_store_slots.specs.Grows.{Parts, IsEven, Wider, NewHead, NewBlock, AreBlocks, IsBlock, Runs, AddsSlot, KeepsSlots, row_spare}
use Rattle.ir_store_slots.proofs.Wide.{wide_then, head_stays, blocks_stay}
use Rattle.ir_store_slots.proofs.Runs.{run_wide, run_heads, slot_wide, slot_row, slot_home, keep_wide, push_long}

module _ (p : Parts) (even : IsEven p) (head : ℕ) (eh : head ≡ length p.slots) (n : ℕ) (homes' : List ℕ) (cells' : List (ℕ × ℕ)) (r : Runs true head n p.homes homes' p.cells cells') where
  abbrev ran : Parts
  ran = record p { homes = homes'; cells = cells' }

  ran_wide : Wider p ran
  ran_wide = run_wide p even true head n homes' cells' r

  pub block_kept : (slots' : List Row) (sibs' : Lists) → KeepsSlots p.slots slots' p.sibs sibs' → Wider p (record { slots = slots'; sibs = sibs'; homes = homes'; cells = cells' })
  block_kept slots' sibs' k = wide_then p ran (record { slots = slots'; sibs = sibs'; homes = homes'; cells = cells' }) ran_wide (keep_wide ran ran_wide.even slots' sibs' k)

  module _ (base owner number : ℕ) (eb : base ≡ length p.homes) (w : Row) (ew : w ≡ row_spare owner number base) (slots' : List Row) (sibs' : Lists) (a : AddsSlot true w p.slots slots' p.sibs sibs') where
    abbrev blocked : Parts
    blocked = record { slots = slots'; sibs = sibs'; homes = homes'; cells = cells' }

    slot_more : Wider ran blocked
    slot_more = slot_wide ran ran_wide.even true w slots' sibs' a (ap (λ z. z.used) ew) (ap (λ z. z.live) ew)

    pub block_wide : Wider p blocked
    block_wide = wide_then p ran blocked ran_wide slot_more

    here : row_at slots' head ≡ row_spare owner number base
    here = ap (row_at slots') eh ∙ slot_row ran ran_wide.even true w slots' sibs' a ∙ ew

    pub block_new : (args : List ℕ) → length args ≡ n → NewBlock blocked (length p.homes) owner number (args, head)
    block_new args en = record {
      head = record { inside = omega (arith, eh, slot_more.even.long, slot_inside); own = ap (home_at sibs'.homes) eh ∙ slot_home ran ran_wide.even true w slots' sibs' a ∙ sym eh };
      owner = ap (λ z. z.owner) here;
      region = ap (λ z. z.region) here;
      bare = slot_more.lists head ∙ get_or_past p.sibs.lists head [] (omega (arith, eh, even.long, even.lists));
      arguments = λ j l. head_stays ran blocked slot_more (length p.homes) head j ((row_at slots' head).values + j)
          (subst (λ z. NewHead ran (length p.homes) head j (z + j)) (sym (ap (λ z. z.values) here))
          (run_heads p even true head n homes' cells' r refl (length p.homes) (omega arith) base eb j (omega (arith, l, en))));
    }
      where
        slot_inside : length p.slots < length slots'
        slot_inside = omega (arith, ap length a.row, push_long p.slots w w)

-- blocks remain blocks for a lower bound
pub lower_block : (q : Parts) (bound low k i : ℕ) (a : List ℕ × ℕ) → low ≤ bound → NewBlock q bound k i a → NewBlock q low k i a
lower_block q bound low k i a l b = record {
  head = b.head;
  owner = b.owner;
  region = b.region;
  bare = b.bare;
  arguments = λ j m. let f = b.arguments j m in record { head = f.head; cell = f.cell; new = omega (arith, l, f.new) };
}

pub lower_is : (q : Parts) (bound low k i : ℕ) (x : RegionShape) → low ≤ bound → IsBlock q bound k i x → IsBlock q low k i x
lower_is q bound low k i None l b = tt
lower_is q bound low k i (Some a) l b = lower_block q bound low k i a l b

-- one more block
pub blocks_push : (q : Parts) (bound k : ℕ) (xs : List RegionShape) (x : RegionShape) → AreBlocks q bound k xs → IsBlock q bound k (length xs) x → AreBlocks q bound k (xs ++ x ∷ [])
blocks_push q bound k xs x f b i a e = ⊎_elim
    (λ l. f i a (sym (in_preceding xs (x ∷ []) i l) ∙ e))
    (λ g. ⊎_elim
    (λ z. last x b (sym (at_end xs x i z) ∙ e) z)
    (λ n. absurd (n (only_end xs x i (Some a) g e)))
    (cases_eq i (length xs)))
    (cases_lt i (length xs))
  where
    in_preceding : {X : Type 0} (ys zs : List X) (i : ℕ) → i < length ys → slice_get (ys ++ zs) i ≡ slice_get ys i
    in_preceding [] zs i l = absurd (omega (arith, l))
    in_preceding (y ∷ ys) zs zero l = refl
    in_preceding (y ∷ ys) zs (suc i) l = in_preceding ys zs i (omega (arith, l))

    at_end : {X : Type 0} (ys : List X) (y : X) (i : ℕ) → i ≡ length ys → slice_get (ys ++ y ∷ []) i ≡ Some y
    at_end [] y zero e = refl
    at_end [] y (suc i) e = absurd (omega (arith, e))
    at_end (z ∷ ys) y zero e = absurd (omega (arith, e))
    at_end (z ∷ ys) y (suc i) e = at_end ys y i (omega (arith, e))

    only_end : {X : Type 0} (ys : List X) (y : X) (i : ℕ) (o : X) → length ys ≤ i → slice_get (ys ++ y ∷ []) i ≡ Some o → i ≡ length ys
    only_end [] y zero o l e = refl
    only_end [] y (suc i) o l e = absurd cc
    only_end (z ∷ ys) y zero o l e = absurd (omega (arith, l))
    only_end (z ∷ ys) y (suc i) o l e = ap suc (only_end ys y i o (omega (arith, l)) e)

    last : (x : RegionShape) → IsBlock q bound k (length xs) x → Some x ≡ Some (Some a) → i ≡ length xs → NewBlock q bound k i a
    last None b e z = absurd cc
    last (Some c) b e z = let f : c ≡ a = cc in subst (λ j. NewBlock q bound k j a) (sym z) (subst (NewBlock q bound k (length xs)) f b)

-- the invariant of a loop over regions
pub areas_step : (p q r : Parts) → IsEven p → Wider p q → Wider q r → (owner : ℕ) (xs : List RegionShape) (x : RegionShape) (ys : List RegionShape) → AreBlocks q (length p.homes) owner xs → (n : ℕ) → n ≡ length xs
    → IsBlock r (length q.homes) owner n x → ys ≡ xs ++ x ∷ [] → AreBlocks r (length p.homes) owner ys × (n + 1 ≡ length ys)
areas_step p q r e a b owner xs x ys f n en g ey = (
  subst (AreBlocks r (length p.homes) owner) (sym ey)
      (blocks_push r (length p.homes) owner xs x (blocks_stay q r a.even b (length p.homes) owner xs f)
      (lower_is r (length q.homes) (length p.homes) owner (length xs) x a.uses_more (subst (λ z. IsBlock r (length q.homes) owner z x) en g))),
  omega (arith, en, ap length ey, push_long xs x x),
)
