-- The slots found for a place; and the insertion into a store's own slots.
use Rattle.std.proofs.Common.{◌≡◌, ℕ, ◌<◌, List, set, get_or, refl, sym, ap, ◌∙◌, subst, length, Bool, true, false, eqb, not, ◌&&◌, cond, Option, Some, None, slice_get, ⊎_elim, arith}
use Rattle.std.specs.Prelude.{option_and_then}
use Rattle.std.specs.FinMap as finmap
use Rattle.std.proofs.lemmas.Bool.{cases_eq, eqb-true, false≢true, and_parts, not-true}
use Rattle.ir_store_reads.specs.Lists.{Lists, Laws, home_at, free, IsHead, IsItem, IsFree}
use Rattle.ir_store_reads.specs.trees.declared.place.Place.{Place}
use Rattle.ir_store_reads.specs.trees.Tree.{Op}
use Rattle.ir_store_reads.specs.trees.Places.{put}
use Rattle.ir_store.specs.declared.store.Store.TheInside.{Inside}
use Rattle.ir_store_reads.specs.Stored.{Stored}
use Rattle.ir_store.specs.Calls.{after_restore, put_held}
use Rattle.ir_store_reads.specs.Rows.{Row, RegionShape, row_at, live_slot, held_slot, if_held, head_in, held_in, gone_in, bare}
use Rattle.ir_store_reads.specs.Spells.{SpellsOp, Represented, rendered_is}
use Rattle.ir_store.specs.Holds.{HoldsOf, GoneOf, map_is}
use Rattle.ir_store_reads.specs.Points.{point_in, before_in, at_slot, stands, joined, IsNodeIn}
use Rattle.ir_store_reads.specs.Right.{Live, Right}
use Rattle.ir_store_reads.proofs.SlotLaws.{found, used_inside}
use Rattle.ir_store.proofs.OneRow.{put_long, put_own, put_other}
use Rattle.ir_store.proofs.Called.{rows_in, keys_in, IsRight, stored}
use Rattle.ir_store_reads.specs.trees.Ids.{HasDistinctIds, has_id}
use Rattle.ir_store_reads.proofs.Founds.{has_is}
use Rattle.ir_store.proofs.Distinct.{bare_distinct}
use Rattle.ir_store.proofs.Joining.{x_out, FoundHeld, Before, Point, point_head, slot_free, join_spells, join_right, join_holds, was_held, join_gone}
use Rattle.std.proofs.lemmas.Option.{cond_some, same_Some}

module _ (slots : List Row) (keys : ℕ → Option ℕ) (sibs : Lists) (root : ℕ) (t : Op) (r : Right slots keys sibs root t) (s : SpellsOp slots sibs.lists root t) where
  pub held_found : (x k : ℕ) → Some k ≡ held_slot slots keys x → FoundHeld slots x k
  held_found x k e = go (keys x) refl (sym e)
    where
      go : (o : Option ℕ) → keys x ≡ o → if_held slots o ≡ Some k → FoundHeld slots x k
      go None f g = absurd cc
      go (Some q) f g =
          let b = cond_some ((row_at slots q).used && not (row_at slots q).live) q k g in
          let c = and_parts (row_at slots q).used (not (row_at slots q).live) b.0 in
          let h = r.known x q f in
          subst (FoundHeld slots x) b.1 (record { used = h.used; out = not-true (row_at slots q).live c.1; id = h.id })

  -- a live slot whose home is a list head is an item of that head's list
  pub item_of : (q n : ℕ) → Live slots q → IsHead sibs.homes n → home_at sibs.homes q ≡ n → IsItem sibs.homes q
  item_of q n l h e = ⊎_elim
      (λ z. let f : n ≡ free = sym e ∙ ap (home_at sibs.homes) z ∙ r.top.unlinked in let few = r.few in let i : n < length sibs.homes = h.inside in absurd (omega arith))
      (λ z. (r.items q l z).item)
      (cases_eq q root)

  module _ (place : Place) (n : ℕ) (at : Option ℕ) where
    abbrev Spotted : Type 0
    Spotted = (a : List ℕ × ℕ) × ((a.1 ≡ n) × Point slots sibs.homes place a at)

    befores : (h : IsHead sibs.homes n) (b : Option ℕ) → before_in slots keys sibs.homes b n ≡ Some (n, at) → Before slots sibs.homes n at b
    befores h None e = let f : None ≡ at = ap (λ z. z.1) (same_Some (n, None) (n, at) e) in subst (λ z. Before slots sibs.homes n z None) f tt
    befores h (Some b) e = go (live_slot slots keys b) refl e
      where
        go : (o : Option ℕ) → live_slot slots keys b ≡ o → option_and_then (at_slot sibs.homes n) o ≡ Some (n, at) → Before slots sibs.homes n at (Some b)
        go None f g = absurd cc
        go (Some q) f g =
            let w = cond_some (stands sibs.homes n q) (n, Some q) (n, at) g in
            let c = and_parts (not (eqb (home_at sibs.homes q) free)) (eqb (home_at sibs.homes q) n) w.0 in
            let e = eqb-true (home_at sibs.homes q) n c.1 in
            let fd = found slots keys sibs root t r s b q f in
            let same : Some q ≡ at = ap (λ z. z.1) w.1 in
            subst (λ z. Before slots sibs.homes n z (Some b)) same (fd, (item_of q n fd.live h e, e))

    pub spotted : Some (n, at) ≡ point_in slots keys sibs.homes place → Spotted
    spotted e = go (live_slot slots keys place.parent) refl (sym e)
      where
        go : (o : Option ℕ) → live_slot slots keys place.parent ≡ o
            → option_and_then (λ p. option_and_then (λ a. option_and_then (before_in slots keys sibs.homes place.before) (head_in a)) (slice_get (row_at slots p).shapes place.region)) o ≡ Some (n, at) → Spotted
        go None f g = absurd cc
        go (Some p) f g = shaped_as (slice_get (row_at slots p).shapes place.region) refl g
          where
            first : (b : Option ℕ) (m : ℕ) → before_in slots keys sibs.homes b m ≡ Some (n, at) → m ≡ n
            first None m e = ap (λ z. z.0) (same_Some (m, None) (n, at) e)
            first (Some b) m e = one (live_slot slots keys b) e
              where
                one : (o : Option ℕ) → option_and_then (at_slot sibs.homes m) o ≡ Some (n, at) → m ≡ n
                one None e = absurd cc
                one (Some q) e = ap (λ z. z.0) (cond_some (stands sibs.homes m q) (m, Some q) (n, at) e).1

            shaped_as : (c : Option RegionShape) → slice_get (row_at slots p).shapes place.region ≡ c → option_and_then (λ a. option_and_then (before_in slots keys sibs.homes place.before) (head_in a)) c ≡ Some (n, at) → Spotted
            shaped_as None h e = absurd cc
            shaped_as (Some None) h e = absurd cc
            shaped_as (Some (Some a)) h e =
                let fd = found slots keys sibs root t r s place.parent p f in
                let m = first place.before a.1 e in
                let b = r.blocks p place.region a (r.live_used p fd.live) h in (
                  a,
                  (
                    m,
                    record {
                      parent = p;
                      found = fd;
                      shaped_as = h;
                      before = subst (λ z. Before slots sibs.homes z at place.before) (sym m)
                          (befores (subst (IsHead sibs.homes) m b.head) place.before (subst (λ z. before_in slots keys sibs.homes place.before z ≡ Some (n, at)) m e));
                    },
                  ),
                )

-- an operation is inserted
module _ (a : Inside) (r : IsRight a) (laws : Laws a.sibs.lists a.sibs.homes) (x k : ℕ) (ek : Some k ≡ held_slot (rows_in a) (keys_in a) x)
    (place : Place) (h : ℕ) (at : Option ℕ) (es : Some (h, at) ≡ point_in (rows_in a) (keys_in a) a.sibs.homes place) where
  fk : FoundHeld (rows_in a) x k
  fk = held_found (rows_in a) (keys_in a) a.sibs a.root a.represented.0 r a.represented.1 x k ek

  sp : (b : List ℕ × ℕ) × ((b.1 ≡ h) × Point (rows_in a) a.sibs.homes place b at)
  sp = spotted (rows_in a) (keys_in a) a.sibs a.root a.represented.0 r a.represented.1 place h at es

  pub joint_head : IsHead a.sibs.homes h
  joint_head = subst (IsHead a.sibs.homes) sp.1.0 (point_head (rows_in a) (keys_in a) a.sibs a.root a.represented.0 r a.represented.1 laws x k fk place sp.0 at sp.1.1)

  pub joint_free : IsFree a.sibs.homes k
  joint_free = slot_free (rows_in a) (keys_in a) a.sibs a.root a.represented.0 r a.represented.1 laws x k fk place sp.0 at sp.1.1

  pub joint_before : (t : ℕ) → at ≡ Some t → IsNodeIn a.sibs.homes h t
  joint_before t e = go place.before (subst (λ z. Before (rows_in a) a.sibs.homes sp.0.1 z place.before) e sp.1.1.before)
    where
      go : (b : Option ℕ) → Before (rows_in a) a.sibs.homes sp.0.1 (Some t) b → IsNodeIn a.sibs.homes h t
      go None z = absurd z
      go (Some b) z = record { item = z.1.0; home = z.1.1 ∙ sp.1.0 }

  pub joint_inside : k < length (rows_in a)
  joint_inside = used_inside (rows_in a) k fk.used

  pub joint_out : has_id (row_at (rows_in a) k).head.id a.represented.0 ≡ false
  joint_out = ap (λ z. has_id z a.represented.0) fk.id ∙ sym (has_is x a.represented.0) ∙ x_out (rows_in a) (keys_in a) a.sibs a.root a.represented.0 r a.represented.1 laws x k fk place sp.0 at sp.1.1

  module _ (slots' : List Row) (er : slots' ≡ set (rows_in a) k (record (row_at (rows_in a) k) { live = true })) (sibs' : Lists) (el : sibs'.lists ≡ joined k h at a.sibs.lists) (eh : sibs'.homes ≡ set a.sibs.homes k h) where
    long' : length slots' ≡ length (rows_in a)
    long' = put_long (rows_in a) slots' k (record (row_at (rows_in a) k) { live = true }) er

    others : (q : ℕ) → (q ≡ k → ⊥) → row_at slots' q ≡ row_at (rows_in a) q
    others = put_other (rows_in a) slots' k (record (row_at (rows_in a) k) { live = true }) er

    come : row_at slots' k ≡ record (row_at (rows_in a) k) { live = true }
    come = put_own (rows_in a) slots' k (record (row_at (rows_in a) k) { live = true }) er joint_inside

    el' : sibs'.lists ≡ joined k sp.0.1 at a.sibs.lists
    el' = el ∙ ap (λ z. joined k z at a.sibs.lists) (sym sp.1.0)

    eh' : sibs'.homes ≡ set a.sibs.homes k sp.0.1
    eh' = eh ∙ ap (set a.sibs.homes k) (sym sp.1.0)

    abbrev o : Op
    o = bare (row_at (rows_in a) k)

    spells : SpellsOp slots' sibs'.lists a.root (put place o a.represented.0)
    spells = join_spells (rows_in a) (keys_in a) a.sibs a.root a.represented.0 r a.represented.1 laws x k fk place sp.0 at sp.1.1 slots' long' others come sibs' el' eh'

    pub joint_tree : (w : Represented slots' sibs'.lists a.root) → w.0 ≡ put place o a.represented.0
    joint_tree w = rendered_is slots' sibs'.lists a.root w (put place o a.represented.0) spells

    pub joint_distinct : HasDistinctIds a.represented.0 → (w : Represented slots' sibs'.lists a.root) → HasDistinctIds w.0
    joint_distinct d w = subst HasDistinctIds (sym (joint_tree w)) (bare_distinct place (row_at (rows_in a) k) a.represented.0 d joint_out)

    pub joint_right : (w : Represented slots' sibs'.lists a.root) → Right slots' (keys_in a) sibs' a.root w.0
    joint_right w = subst (Right slots' (keys_in a) sibs' a.root) (sym (rendered_is slots' sibs'.lists a.root w (put place o a.represented.0) spells))
        (join_right (rows_in a) (keys_in a) a.sibs a.root a.represented.0 r a.represented.1 laws x k fk place sp.0 at sp.1.1 slots' long' others come sibs' el' eh')

    holds : (y : ℕ) → finmap.get (finmap.remove a.holds.0 x) y ≡ held_in slots' (keys_in a y)
    holds = join_holds (rows_in a) (keys_in a) a.sibs a.root a.represented.0 r a.represented.1 laws x k fk place sp.0 at sp.1.1 slots' long' others come sibs' el' eh' a.holds.0 a.holds.1

    lacks : (y : ℕ) → finmap.get a.lacks.0 y ≡ gone_in slots' (keys_in a y)
    lacks y = a.lacks.1 y ∙ join_gone (rows_in a) (keys_in a) a.sibs a.root a.represented.0 r a.represented.1 laws x k fk place sp.0 at sp.1.1 slots' long' others come sibs' el' eh' y

    pub joint_given : Represented slots' sibs'.lists a.root × (HoldsOf slots' (keys_in a) × (GoneOf slots' (keys_in a) × Unit {0}))
    joint_given = ((put place o a.represented.0, spells), ((finmap.remove a.holds.0 x, holds), ((a.lacks.0, lacks), tt)))

    pub joint_done : (w : Represented slots' sibs'.lists a.root) (v : HoldsOf slots' (keys_in a)) (g : GoneOf slots' (keys_in a))
        → ◌≡◌ {A = Stored} (record { module_of = record { tree = w.0; next = a.next }; held = v.0; gone = g.0 }) (after_restore x place false (stored a))
    joint_done w v g =
        let was = was_held (rows_in a) (keys_in a) a.sibs a.root a.represented.0 r a.represented.1 laws x k fk place sp.0 at sp.1.1 slots' long' others come sibs' el' eh' a.holds.0 a.holds.1 in
        let e1 = rendered_is slots' sibs'.lists a.root w (put place o a.represented.0) spells ∙ ap (λ z. put_held place z a.represented.0) (sym was) in
        let e2 = map_is (λ y. held_in slots' (keys_in a y)) v (finmap.remove a.holds.0 x) holds in
        let e3 = map_is (λ y. gone_in slots' (keys_in a y)) g a.lacks.0 lacks in
        λ i. record { module_of = record { tree = e1 i; next = a.next }; held = e2 i; gone = e3 i }
