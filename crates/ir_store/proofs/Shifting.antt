-- How the slots change when an operation is moved with everything inside it.
use Rattle.std.proofs.Common.{◌≡◌, ℕ, suc, ◌+◌, ◌<◌, List, [], ◌∷◌, ◌++◌, map, set, refl, sym, ap, ◌∙◌, subst, length, Bool, true, false, eqb, ◌&&◌, ◌||◌, ⊎_elim, arith, Option, Some, None, slice_get}
use Rattle.std.specs.Prelude.{IfSome}
use Rattle.std.specs.List.{list_any}
use Rattle.std.proofs.lemmas.Bool.{cases_eq, eqb-false, eq-eqb, ne_eqb, cond-true, cond-false, cases_Bool, false≢true, or_left, or_right, or_cases}
use Rattle.std.proofs.lemmas.List.{get_or-set_same, get_or-set_other, length-set}
use Rattle.ir_store_reads.specs.Lists.{Lists, Laws, list_at, home_at, free, has, IsHead, IsItem, IsFree, without as drop_node}
use Rattle.ir_store_reads.proofs.Cuts.{list_at-map}
use Rattle.ir_store_reads.specs.trees.declared.place.Place.{Place}
use Rattle.ir_store_reads.specs.trees.Tree.{Op, op, Regions, no_regions, region, Region, empty, block, Ops, no_ops, next, head}
use Rattle.ir_store_reads.specs.trees.Ids.{HasDistinctIds, has_id, find, ids, op_count, regions_ids}
use Rattle.ir_store_reads.specs.trees.Places.{put, put_here, put_in, is_in_block, without, shifted}
use Rattle.ir_store_reads.proofs.of_trees.Moves.{Absent, regions_untouched}
use Rattle.ir_store_reads.proofs.of_trees.Returns.{absent_first}
use Rattle.ir_store_reads.specs.tree_laws.Reads.{is_within}
use Rattle.ir_store_reads.specs.tree_laws.Reasons.{leads_inside, before_within}
use Rattle.ir_store_reads.proofs.of_tree_laws.Shift.{own_distinct, is_put, may_shift, shift_distinct, shift_found}
use Rattle.ir_store_reads.proofs.of_tree_laws.Edited.{taken_order, taken_op_count, put_op_count}
use Rattle.ir_store_reads.specs.Rows.{Row, RegionShape, row_at}
use Rattle.ir_store_reads.specs.Spells.{SpellsOp, SpellsRegions, SpellsRegion, SpellsOps}
use Rattle.ir_store_reads.specs.Points.{joined, IsNodeIn}
use Rattle.ir_store.specs.Shifting.{CanRelink}
use Rattle.ir_store_reads.specs.Right.{Live, Used, Placed, BlockOf, Right}
use Rattle.ir_store_reads.proofs.Mapped.{has_op, has_regions, has_region, has_ops, neither, lists_spells}
use Rattle.ir_store_reads.proofs.Founds.{has_is}
use Rattle.ir_store_reads.proofs.SlotLaws.{Found, found_op, only, root_id}
use Rattle.ir_store.proofs.Cut.{not_item, head_id, cut_lists}
use Rattle.ir_store.proofs.Join.{joins, joined_same, joined_other, AtHome, Names, put_spells, has_put, In, within}
use Rattle.ir_store.proofs.Joining.{Before, Point}
use Rattle.std.proofs.lemmas.List.Folds.{list_any-append}
use Rattle.ir_store_reads.proofs.of_trees.Counts.{and_false}
use Rattle.std.proofs.lemmas.Option.{same_Some}

-- only lists of the blocks of operation y have changed
module _ (slots : List Row) (lists lists' : List (List ℕ)) (y : ℕ)
    (remains : (q i : ℕ) (c : List ℕ × ℕ) → Live slots q → ((row_at slots q).head.id ≡ y → ⊥) → slice_get (row_at slots q).shapes i ≡ Some (Some c) → list_at lists' c.1 ≡ list_at lists c.1) where
  mutual
    pub same_spells : (k : ℕ) (t : Op) → has_op y t ≡ false → SpellsOp slots lists k t → SpellsOp slots lists' k t
    same_spells k (op h rs) n s =
        let b = neither (eqb h.id y) (has_regions y rs) n in (
          s.0,
          (
            s.1.0,
            same_regions k (record { live = s.0 }) (λ e. eqb-false h.id y b.0 (sym (ap (λ z. z.id) s.1.0) ∙ e)) 0 (row_at slots k).shapes rs (λ i. ap (slice_get (row_at slots k).shapes) (omega arith)) b.1 s.1.1,
          ),
        )

    same_regions : (k : ℕ) → Live slots k → ((row_at slots k).head.id ≡ y → ⊥) → (r : ℕ) (xs : List RegionShape) (rs : Regions) → ((i : ℕ) → slice_get xs i ≡ slice_get (row_at slots k).shapes (i + r)) → has_regions y rs ≡ false
        → SpellsRegions slots lists xs rs → SpellsRegions slots lists' xs rs
    same_regions k l ne r [] no_regions e n s = tt
    same_regions k l ne r [] (region g rs) e n s = absurd s
    same_regions k l ne r (a ∷ xs) no_regions e n s = absurd s
    same_regions k l ne r (a ∷ xs) (region g rs) e n s =
        let b = neither (has_region y g) (has_regions y rs) n in (
          same_region k l ne r a g (ap (slice_get (row_at slots k).shapes) (omega arith) ∙ sym (e 0)) b.0 s.0,
          same_regions k l ne (r + 1) xs rs (λ i. e (suc i) ∙ ap (slice_get (row_at slots k).shapes) (omega arith)) b.1 s.1,
        )

    same_region : (k : ℕ) → Live slots k → ((row_at slots k).head.id ≡ y → ⊥) → (r : ℕ) (a : RegionShape) (g : Region) → slice_get (row_at slots k).shapes r ≡ Some a → has_region y g ≡ false → SpellsRegion slots lists a g → SpellsRegion slots lists' a g
    same_region k l ne r None empty e n s = tt
    same_region k l ne r None (block args os) e n s = absurd s
    same_region k l ne r (Some a) empty e n s = absurd s
    same_region k l ne r (Some a) (block args os) e n s = (s.0, subst (λ z. SpellsOps slots lists' z os) (sym (remains k r a l ne e)) (same_ops (list_at lists a.1) os n s.1))

    same_ops : (ks : List ℕ) (os : Ops) → has_ops y os ≡ false → SpellsOps slots lists ks os → SpellsOps slots lists' ks os
    same_ops [] no_ops n s = tt
    same_ops [] (next o os) n s = absurd s
    same_ops (k ∷ ks) no_ops n s = absurd s
    same_ops (k ∷ ks) (next o os) n s = let b = neither (has_op y o) (has_ops y os) n in (same_spells k o b.0 s.0, same_ops ks os b.1 s.1)

own_in : (x : ℕ) (o : Op) → (head o).id ≡ x → has_op x o ≡ true
own_in x (op h rs) e = or_left (eqb h.id x) (has_regions x rs) (eq-eqb h.id x e)

-- an operation isn't inside itself
untaken : (x : ℕ) (o : Op) → (head o).id ≡ x → HasDistinctIds o → without x o ≡ o
untaken x (op h rs) e d = ap (op h) (regions_untouched x h.id 0 rs (subst (λ z. Absent z (regions_ids rs)) e (absent_first h.id (regions_ids rs) d)))

module _ (slots : List Row) (keys : ℕ → Option ℕ) (sibs : Lists) (root : ℕ) (t : Op) (r : Right slots keys sibs root t) (s : SpellsOp slots sibs.lists root t) (d : HasDistinctIds t)
    (x k : ℕ) (fd : Found slots x k) (place : Place) (a : List ℕ × ℕ) (at : Option ℕ) (point : Point slots sibs.homes place a at) (can : CanRelink x place t) where
  not_root : k ≡ root → ⊥
  not_root e = false≢true (sym can.inner ∙ eq-eqb (head t).id x (sym (root_id slots keys sibs root t r s) ∙ ap (λ z. (row_at slots z).head.id) (sym e) ∙ fd.id))

  pub shift_item : IsItem sibs.homes k
  shift_item = (r.items k fd.live not_root).item

  own : (o : Op) × ((find x t ≡ Some o) × SpellsOp slots sibs.lists k o)
  own = found_op slots keys sibs root t r s x k fd

  abbrev o : Op
  o = own.0

  own_id : (head o).id ≡ x
  own_id = head_id slots sibs.lists k o own.1.1 ∙ fd.id

  outside : leads_inside place (Some o) ≡ false
  outside = ap (leads_inside place) (sym own.1.0) ∙ can.outside

  parent_out : has_op place.parent o ≡ false
  parent_out = has_is place.parent o ∙ (neither (is_within place.parent (Some o)) (before_within place.before (Some o)) outside).0

  same_slot : (q p y : ℕ) → Used slots q → (row_at slots q).head.id ≡ y → Used slots p → (row_at slots p).head.id ≡ y → q ≡ p
  same_slot q p y uq eq up ep = same_Some q p (sym (r.keyed q uq) ∙ ap keys (eq ∙ sym ep) ∙ r.keyed p up)

  -- the slot at the insertion point is another one
  other : (c b : Option ℕ) → Before slots sibs.homes a.1 c b → before_within b (Some o) ≡ false → (q : ℕ) → c ≡ Some q → q ≡ k → ⊥
  other None b z n q e f = absurd cc
  other (Some p) None z n q e f = absurd z
  other (Some p) (Some b) z n q e f =
      let id : x ≡ b = sym fd.id ∙ ap (λ w. (row_at slots w).head.id) (sym (same_Some p q e ∙ f)) ∙ z.0.id in
      false≢true (sym (has_is b o ∙ n) ∙ subst (λ y. has_op y o ≡ true) id (own_in x o own_id))

  other_slot : (q : ℕ) → at ≡ Some q → q ≡ k → ⊥
  other_slot = other at place.before point.before (neither (is_within place.parent (Some o)) (before_within place.before (Some o)) outside).1

  block_of : BlockOf slots sibs.homes point.parent place.region a
  block_of = r.blocks point.parent place.region a (r.live_used point.parent point.found.live) point.shaped_as

  -- a block with this head is the block of the place
  owner_is : (q i : ℕ) (c : List ℕ × ℕ) → Used slots q → slice_get (row_at slots q).shapes i ≡ Some (Some c) → c.1 ≡ a.1 → (q ≡ point.parent) × (i ≡ place.region)
  owner_is q i c u e z =
      let b = r.blocks q i c u e in
      (sym b.owner ∙ ap (λ w. (row_at slots w).owner) z ∙ block_of.owner, sym b.region ∙ ap (λ w. (row_at slots w).region) z ∙ block_of.region)

  module _ (mid : Lists) (el1 : mid.lists ≡ map (drop_node k) sibs.lists) (eh1 : mid.homes ≡ set sibs.homes k free) (laws1 : Laws mid.lists mid.homes) where
    long1 : length mid.homes ≡ length sibs.homes
    long1 = ap length eh1 ∙ length-set sibs.homes k free

    home_mid : (q : ℕ) → (q ≡ k → ⊥) → home_at mid.homes q ≡ home_at sibs.homes q
    home_mid q ne = ap (λ z. home_at z q) eh1 ∙ get_or-set_other sibs.homes k q free free ne

    head_mid : (h : ℕ) → IsHead sibs.homes h → IsHead mid.homes h
    head_mid h p = record { inside = omega (arith, p.inside, long1); own = home_mid h (not_item sibs.homes h k p shift_item) ∙ p.own }

    pub shift_free : IsFree mid.homes k
    shift_free = record { inside = omega (arith, shift_item.inside, long1); unlinked = ap (λ z. home_at z k) eh1 ∙ get_or-set_same sibs.homes k free free shift_item.inside }

    pub shift_head : IsHead mid.homes a.1
    shift_head = head_mid a.1 block_of.head

    stands_mid : (c b : Option ℕ) → Before slots sibs.homes a.1 c b → ((q : ℕ) → c ≡ Some q → q ≡ k → ⊥) → IfSome c (λ q. IsNodeIn mid.homes a.1 q)
    stands_mid None b z n = tt
    stands_mid (Some q) None z n = absurd z
    stands_mid (Some q) (Some b) z n =
        let h = home_mid q (n q refl) in
        let i = z.1.0 in
        record { item = record { inside = omega (arith, i.inside, long1); linked = λ g. i.linked (sym h ∙ g); other = λ g. i.other (sym h ∙ g) }; home = h ∙ z.1.1 }

    pub shift_before : IfSome at (λ q. IsNodeIn mid.homes a.1 q)
    shift_before = stands_mid at place.before point.before other_slot

    at_home : (c b : Option ℕ) → Before slots sibs.homes a.1 c b → ((q : ℕ) → c ≡ Some q → q ≡ k → ⊥) → AtHome mid.lists a.1 c
    at_home None b z n = tt
    at_home (Some q) None z n = absurd z
    at_home (Some q) (Some b) z n = λ m ne. ⊎_elim (λ y. absurd (ne (sym (laws1.members m q y).0 ∙ home_mid q (n q refl) ∙ z.1.1))) (λ y. y) (cases_Bool (has q (list_at mid.lists m)))

    names : (c b : Option ℕ) → Before slots sibs.homes a.1 c b → Names slots c b
    names None None z = tt
    names None (Some b) z = absurd z
    names (Some q) None z = absurd z
    names (Some q) (Some b) z = (z.0.id, λ w l e. same_slot w q b (r.live_used w l) e (r.live_used q z.0.live) z.0.id)

    -- the operation is removed
    mid_spells : (q : ℕ) (u : Op) → SpellsOp slots sibs.lists q u → SpellsOp slots mid.lists q (without x u)
    mid_spells = cut_lists slots sibs.lists mid.lists x k fd.id (only slots keys sibs root t r s x k fd.live fd.id) el1

    own_mid : SpellsOp slots mid.lists k o
    own_mid = subst (SpellsOp slots mid.lists k) (untaken x o own_id (own_distinct x t o d own.1.0)) (mid_spells k o own.1.1)

    module _ (sibs' : Lists) (el : sibs'.lists ≡ joined k a.1 at mid.lists) (eh : sibs'.homes ≡ set mid.homes k a.1) where
      abbrev after : Op
      after = put place o (without x t)

      list_here : list_at sibs'.lists a.1 ≡ joins k at (list_at mid.lists a.1)
      list_here = ap (λ z. list_at z a.1) el ∙ joined_same k a.1 at mid.lists (omega (arith, shift_head.inside, laws1.counted))

      list_else : (m : ℕ) → (m ≡ a.1 → ⊥) → list_at sibs'.lists m ≡ list_at mid.lists m
      list_else m n = ap (λ z. list_at z m) el ∙ joined_other k a.1 at mid.lists (at_home at place.before point.before other_slot) m n

      -- the operations inside it remain
      own_spells : SpellsOp slots sibs'.lists k o
      own_spells = same_spells slots mid.lists sibs'.lists place.parent
          (λ q i c l ne e. list_else c.1 (λ z. ne (ap (λ w. (row_at slots w).head.id) (owner_is q i c (r.live_used q l) e z).0 ∙ point.found.id)))
          k o parent_out own_mid

      not_here : (q i : ℕ) (c : List ℕ × ℕ) → Live slots q → slice_get (row_at slots q).shapes i ≡ Some (Some c) → (c.1 ≡ a.1 → ⊥) → is_in_block place (row_at slots q).head.id i ≡ false
      not_here q i c l e y = ⊎_elim
          (λ f. ⊎_elim
          (λ g.
          let p : q ≡ point.parent = same_slot q point.parent place.parent (r.live_used q l) f (r.live_used point.parent point.found.live) point.found.id in
          let m : Some (Some c) ≡ Some (Some a) = sym e ∙ ap (λ v. slice_get (row_at slots v).shapes i) p ∙ ap (slice_get (row_at slots point.parent).shapes) g ∙ point.shaped_as in
          let n : c ≡ a = cc in
          absurd (y (ap (λ v. v.1) n)))
          (λ g. rw (ne_eqb i place.region g) (and_false (eqb (row_at slots q).head.id place.parent)))
          (cases_eq i place.region))
          (λ f. rw (ne_eqb (row_at slots q).head.id place.parent f) refl)
          (cases_eq (row_at slots q).head.id place.parent)

      -- the operation is inserted
      step : (q i : ℕ) (c : List ℕ × ℕ) (os : Ops) → Live slots q → slice_get (row_at slots q).shapes i ≡ Some (Some c) → SpellsOps slots sibs'.lists (list_at mid.lists c.1) os
          → SpellsOps slots sibs'.lists (list_at sibs'.lists c.1) (put_here place o (row_at slots q).head.id i os)
      step q i c os l e z = ⊎_elim
          (λ y.
          let w = owner_is q i c (r.live_used q l) e y in
          let id : eqb (row_at slots q).head.id place.parent ≡ true = eq-eqb (row_at slots q).head.id place.parent (ap (λ v. (row_at slots v).head.id) w.0 ∙ point.found.id) in
          let reg : eqb i place.region ≡ true = eq-eqb i place.region w.1 in
          let here : is_in_block place (row_at slots q).head.id i ≡ true = rw (id, reg) refl in
          subst (λ v. SpellsOps slots sibs'.lists v (put_here place o (row_at slots q).head.id i os)) (sym (ap (list_at sibs'.lists) y ∙ list_here))
          (subst (λ v. SpellsOps slots sibs'.lists (joins k at (list_at mid.lists a.1)) v) (sym (cond-true (is_in_block place (row_at slots q).head.id i) (put_in place.before o os) os here))
          (put_spells slots sibs'.lists k o own_spells at place.before (names at place.before point.before) (list_at mid.lists a.1) os (laws1.once a.1)
          (subst (λ v. SpellsOps slots sibs'.lists (list_at mid.lists v) os) y z))))
          (λ y.
          let here : is_in_block place (row_at slots q).head.id i ≡ false = not_here q i c l e y in
          subst (λ v. SpellsOps slots sibs'.lists v (put_here place o (row_at slots q).head.id i os)) (sym (list_else c.1 y))
          (subst (λ v. SpellsOps slots sibs'.lists (list_at mid.lists c.1) v) (sym (cond-false (is_in_block place (row_at slots q).head.id i) (put_in place.before o os) os here)) z))
          (cases_eq c.1 a.1)

      shifted_is : shifted x place t ≡ after
      shifted_is = is_put x place t o d own.1.0 can.inner can.point outside

      pub shift_spells : SpellsOp slots sibs'.lists root (shifted x place t)
      shift_spells = subst (SpellsOp slots sibs'.lists root) (sym shifted_is) (lists_spells slots mid.lists sibs'.lists (put_here place o) step root (without x t) (mid_spells root t s))

      pub shift_ids : HasDistinctIds (shifted x place t)
      shift_ids = subst HasDistinctIds (sym shifted_is) (shift_distinct x place t o d own.1.0 can.inner can.point outside)

      pub shift_counted : op_count t ≡ op_count (shifted x place t)
      shift_counted = taken_op_count x t o d own.1.0 can.inner ∙ sym (put_op_count place o (without x t) (may_shift x place t o d own.1.0 can.inner can.point outside)) ∙ ap op_count (sym shifted_is)

      -- every operation of the tree is still in it
      stays : (y : ℕ) → has_id y t ≡ true → has_id y (shifted x place t) ≡ true
      stays y e =
          let w = taken_order x t o d own.1.0 can.inner in
          let test = λ (z : ℕ). eqb z y in
          let all : (list_any test w.0 || (list_any test (ids o) || list_any test w.1)) ≡ true =
          sym (ap (list_any test) w.2 ∙ list_any-append test w.0 (ids o ++ w.1) ∙ ap (λ b. list_any test w.0 || b) (list_any-append test (ids o) w.1)) ∙ e in
          let left : has_id y (without x t) ≡ (list_any test w.0 || list_any test w.1) = ap (list_any test) w.3 ∙ list_any-append test w.0 w.1 in
          let rest : has_id y (without x t) ≡ true → has_op y after ≡ true = λ f. has_put place o y (without x t) (has_is y (without x t) ∙ f) in
          let inside : has_id y o ≡ true → has_op y after ≡ true =
          λ f. within x y after (subst (In x y) (sym (shift_found x place t o d own.1.0 can.inner can.point outside ∙ own.1.0)) (has_is y o ∙ f)) in
          ap (has_id y) shifted_is ∙ sym (has_is y after) ∙ ⊎_elim
          (λ f. rest (left ∙ or_left (list_any test w.0) (list_any test w.1) f))
          (λ f. ⊎_elim inside (λ g. rest (left ∙ or_right (list_any test w.0) (list_any test w.1) g)) (or_cases (list_any test (ids o)) (list_any test w.1) f))
          (or_cases (list_any test w.0) (list_any test (ids o) || list_any test w.1) all)

      pub shift_right : Right slots keys sibs' root (shifted x place t)
      shift_right =
          let long : length sibs'.homes ≡ length sibs.homes = ap length eh ∙ length-set mid.homes k a.1 ∙ long1 in
          let home : (q : ℕ) → (q ≡ k → ⊥) → home_at sibs'.homes q ≡ home_at sibs.homes q = λ q ne. ap (λ z. home_at z q) eh ∙ get_or-set_other mid.homes k q a.1 free ne ∙ home_mid q ne in
          let own_home : home_at sibs'.homes k ≡ a.1 = ap (λ z. home_at z k) eh ∙ get_or-set_same mid.homes k a.1 free shift_free.inside in
          let apart : (h : ℕ) → IsHead sibs.homes h → h ≡ k → ⊥ = λ h p. not_item sibs.homes h k p shift_item in
          let head_still : (h : ℕ) → IsHead sibs.homes h → IsHead sibs'.homes h = λ h p. record { inside = omega (arith, p.inside, long); own = home h (apart h p) ∙ p.own } in
          record {
            few = omega (arith, long, r.few);
            long = r.long ∙ sym long;
            live_used = r.live_used;
            keyed = r.keyed;
            known = r.known;
            top = record { inside = omega (arith, r.top.inside, long); unlinked = home root (λ e. not_root (sym e)) ∙ r.top.unlinked };
            blocks = λ q i c u e. let old = r.blocks q i c u e in record { head = head_still c.1 old.head; owner = old.owner; region = old.region };
            items = λ q l ne. ⊎_elim
                (λ e. subst (Placed sibs'.homes) (sym e) (record {
                  item = record {
                    inside = omega (arith, shift_item.inside, long);
                    linked = λ g. (let f : a.1 ≡ free = sym own_home ∙ g in let few = r.few in let i : a.1 < length sibs.homes = block_of.head.inside in omega arith);
                    other = λ g. apart a.1 block_of.head (sym own_home ∙ g);
                  };
                  head = rw own_home (head_still a.1 block_of.head);
                }))
                (λ nk.
                let old = r.items q l ne in
                let h = home q nk in
                record {
                  item = record { inside = omega (arith, old.item.inside, long); linked = λ g. old.item.linked (sym h ∙ g); other = λ g. old.item.other (sym h ∙ g) };
                  head = rw h (head_still (home_at sibs.homes q) old.head);
                })
                (cases_eq q k);
            held = λ q u out.
                let old = r.held q u out in
                let ne : q ≡ k → ⊥ = λ e. false≢true (sym out ∙ ap (λ z. (row_at slots z).live) e ∙ fd.live.live) in
                let far : q ≡ point.parent → ⊥ = λ e. false≢true (sym out ∙ ap (λ z. (row_at slots z).live) e ∙ point.found.live.live) in
                record {
                  out = record { inside = omega (arith, old.out.inside, long); unlinked = home q ne ∙ old.out.unlinked };
                  bare = λ i c f. list_else c.1 (λ z. far (owner_is q i c u f z).0) ∙ ap (λ z. list_at z c.1) el1 ∙ list_at-map (drop_node k) sibs.lists c.1 refl ∙ ap (drop_node k) (old.bare i c f);
                };
            covers = λ q l. stays (row_at slots q).head.id (r.covers q l);
          }
