-- Moving an operation, in the form of the calls' contracts.
use Rattle.std.proofs.Common.{◌≡◌, ℕ, List, map, set, sym, ◌∙◌, subst, false, ◌&&◌, Option, Some}
use Rattle.std.specs.Prelude.{is_some, IfSome}
use Rattle.std.proofs.lemmas.Bool.{false≢true}
use Rattle.ir_store_reads.specs.Lists.{Lists, Laws, free, IsHead, IsItem, IsFree, without as drop_node}
use Rattle.ir_store_reads.specs.trees.declared.place.Place.{Place}
use Rattle.ir_store_reads.specs.trees.Places.{shifted}
use Rattle.ir_store.specs.declared.store.Store.TheInside.{Inside}
use Rattle.ir_store_reads.specs.Stored.{Stored}
use Rattle.ir_store.specs.Calls.{after_shift}
use Rattle.ir_store_reads.specs.Rows.{live_slot, held_in, gone_in}
use Rattle.ir_store_reads.specs.Spells.{SpellsOp, Represented, rendered_is}
use Rattle.ir_store.specs.Holds.{HoldsOf, GoneOf, map_is}
use Rattle.ir_store_reads.specs.Points.{point_in, joined, IsNodeIn}
use Rattle.ir_store.specs.Shifting.{CanRelink}
use Rattle.ir_store_reads.specs.Index.{Fits, cells_of}
use Rattle.ir_store_reads.proofs.SlotLaws.{Found, found, in_tree_is}
use Rattle.ir_store.proofs.Joining.{Point}
use Rattle.ir_store.proofs.Spotted.{spotted}
use Rattle.ir_store.proofs.Valued.{place_is}
use Rattle.ir_store.proofs.Called.{rows_in, keys_in, stored}
use Rattle.ir_store.proofs.Whole.{Whole}
use Rattle.ir_store.proofs.Shifting.{shift_item, shift_free, shift_head, shift_before, shift_spells, shift_ids, shift_right, shift_counted}

module _ (a : Inside) (w : Whole a) (laws : Laws a.sibs.lists a.sibs.homes) (x : ℕ) (place : Place) (can : CanRelink x place a.represented.0) where
  pub move_found : (is_some (live_slot (rows_in a) (keys_in a) x) && is_some (point_in (rows_in a) (keys_in a) a.sibs.homes place)) ≡ false → ⊥
  move_found e =
      let p = in_tree_is (rows_in a) (keys_in a) a.sibs a.root a.represented.0 w.right a.represented.1 x ∙ can.there in
      let q = place_is (rows_in a) (keys_in a) a.sibs a.root a.represented.0 w.right a.represented.1 laws place ∙ can.point in
      false≢true (sym e ∙ (λ i. p i && q i))

  module _ (k : ℕ) (ek : Some k ≡ live_slot (rows_in a) (keys_in a) x) (h : ℕ) (at : Option ℕ) (es : Some (h, at) ≡ point_in (rows_in a) (keys_in a) a.sibs.homes place) where
    here : Found (rows_in a) x k
    here = found (rows_in a) (keys_in a) a.sibs a.root a.represented.0 w.right a.represented.1 x k (sym ek)

    at_point : (c : List ℕ × ℕ) × ((c.1 ≡ h) × Point (rows_in a) a.sibs.homes place c at)
    at_point = spotted (rows_in a) (keys_in a) a.sibs a.root a.represented.0 w.right a.represented.1 place h at es

    abbrev c : List ℕ × ℕ
    c = at_point.0

    pub move_item : IsItem a.sibs.homes k
    move_item = shift_item (rows_in a) (keys_in a) a.sibs a.root a.represented.0 w.right a.represented.1 w.distinct x k here place c at at_point.1.1 can

    module _ (mid : Lists) (el1 : mid.lists ≡ map (drop_node k) a.sibs.lists) (eh1 : mid.homes ≡ set a.sibs.homes k free) (laws1 : Laws mid.lists mid.homes) where
      pub move_free : IsFree mid.homes k
      move_free = shift_free (rows_in a) (keys_in a) a.sibs a.root a.represented.0 w.right a.represented.1 w.distinct x k here place c at at_point.1.1 can mid el1 eh1 laws1

      pub move_head : IsHead mid.homes h
      move_head = subst (IsHead mid.homes) at_point.1.0 (shift_head (rows_in a) (keys_in a) a.sibs a.root a.represented.0 w.right a.represented.1 w.distinct x k here place c at at_point.1.1 can mid el1 eh1 laws1)

      pub move_before : IfSome at (λ q. IsNodeIn mid.homes h q)
      move_before = subst (λ z. IfSome at (λ q. IsNodeIn mid.homes z q)) at_point.1.0 (shift_before (rows_in a) (keys_in a) a.sibs a.root a.represented.0 w.right a.represented.1 w.distinct x k here place c at at_point.1.1 can mid el1 eh1 laws1)

      module _ (sibs' : Lists) (el : sibs'.lists ≡ joined k h at mid.lists) (eh : sibs'.homes ≡ set mid.homes k h) where
        el' : sibs'.lists ≡ joined k c.1 at mid.lists
        el' = subst (λ z. sibs'.lists ≡ joined k z at mid.lists) (sym at_point.1.0) el

        eh' : sibs'.homes ≡ set mid.homes k c.1
        eh' = subst (λ z. sibs'.homes ≡ set mid.homes k z) (sym at_point.1.0) eh

        spelt : SpellsOp (rows_in a) sibs'.lists a.root (shifted x place a.represented.0)
        spelt = shift_spells (rows_in a) (keys_in a) a.sibs a.root a.represented.0 w.right a.represented.1 w.distinct x k here place c at at_point.1.1 can mid el1 eh1 laws1 sibs' el' eh'

        pub move_given : Represented (rows_in a) sibs'.lists a.root × (HoldsOf (rows_in a) (keys_in a) × (GoneOf (rows_in a) (keys_in a) × Unit {0}))
        move_given = ((shifted x place a.represented.0, spelt), (a.holds, (a.lacks, tt)))

        pub move_fits : (s : Represented (rows_in a) sibs'.lists a.root) → Fits (rows_in a) (keys_in a) sibs' a.root s.0 a.uses.homes (cells_of a.cells.items) a.count a.next a.marks.homes
        move_fits s = subst (λ z. Fits (rows_in a) (keys_in a) sibs' a.root z a.uses.homes (cells_of a.cells.items) a.count a.next a.marks.homes) (sym (rendered_is (rows_in a) sibs'.lists a.root s (shifted x place a.represented.0) spelt))
            (record {
              right = shift_right (rows_in a) (keys_in a) a.sibs a.root a.represented.0 w.right a.represented.1 w.distinct x k here place c at at_point.1.1 can mid el1 eh1 laws1 sibs' el' eh';
              few = w.few;
              index = w.index;
              distinct = shift_ids (rows_in a) (keys_in a) a.sibs a.root a.represented.0 w.right a.represented.1 w.distinct x k here place c at at_point.1.1 can mid el1 eh1 laws1 sibs' el' eh';
              counted = w.counted ∙ shift_counted (rows_in a) (keys_in a) a.sibs a.root a.represented.0 w.right a.represented.1 w.distinct x k here place c at at_point.1.1 can mid el1 eh1 laws1 sibs' el' eh';
              below = w.below;
              owned = w.owned;
              marked = w.marked;
              celled = w.celled;
            })

        pub move_done : (s : Represented (rows_in a) sibs'.lists a.root) (m : HoldsOf (rows_in a) (keys_in a)) (g : GoneOf (rows_in a) (keys_in a))
            → ◌≡◌ {A = Stored} (record { module_of = record { tree = s.0; next = a.next }; held = m.0; gone = g.0 }) (after_shift x place (stored a))
        move_done s m g =
            let e1 = rendered_is (rows_in a) sibs'.lists a.root s (shifted x place a.represented.0) spelt in
            let e2 = map_is (λ y. held_in (rows_in a) (keys_in a y)) m a.holds.0 a.holds.1 in
            let e3 = map_is (λ y. gone_in (rows_in a) (keys_in a y)) g a.lacks.0 a.lacks.1 in
            λ i. record { module_of = record { tree = e1 i; next = a.next }; held = e2 i; gone = e3 i }
