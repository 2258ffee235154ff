-- How the slots change when a held operation is inserted again.
use Rattle.std.proofs.Common.{◌≡◌, ℕ, suc, ◌<◌, List, [], ◌∷◌, set, refl, sym, ap, ◌∙◌, subst, length, Bool, true, false, eqb, cond, ◌&&◌, ⊎_elim, arith, Option, Some, None, slice_get}
use Rattle.std.specs.Ordering.{nat_cmp}
use Rattle.std.specs.Cmp.{nat_cmp_total}
use Rattle.std.specs.FinMap as finmap
use Rattle.std.proofs.lemmas.Bool.{cases_eq, eq-eqb, ne_eqb, cond-true, cond-false, cases_Bool, false≢true}
use Rattle.std.proofs.lemmas.List.{get_or-set_same, get_or-set_other, length-set}
use Rattle.ir_store_reads.specs.Lists.{Lists, Laws, list_at, home_at, free, has, IsHead, IsItem, IsFree}
use Rattle.ir_store_reads.specs.trees.declared.place.Place.{Place}
use Rattle.ir_store_reads.specs.trees.Tree.{Op, op, Ops, no_ops}
use Rattle.ir_store_reads.specs.trees.Ids.{has_id, find}
use Rattle.ir_store_reads.specs.trees.Places.{put, put_here, put_in, is_in_block}
use Rattle.ir_store_reads.specs.Rows.{Row, RegionShape, row_at, bare, bare_regions, held_in, gone_in}
use Rattle.ir_store_reads.specs.Spells.{SpellsOp, SpellsRegions, SpellsOps}
use Rattle.ir_store_reads.specs.Points.{joined}
use Rattle.ir_store_reads.specs.Right.{Live, Used, Placed, BlockOf, Right}
use Rattle.ir_store_reads.proofs.Mapped.{has_op, lists_spells, rows_spells}
use Rattle.ir_store_reads.proofs.Founds.{has_is, Spelt, find_spelt, has_live}
use Rattle.ir_store_reads.proofs.SlotLaws.{Found, there}
use Rattle.ir_store_reads.proofs.Items.{eq_nat}
use Rattle.ir_store.proofs.Join.{joins, joined_same, joined_other, AtHome, Names, put_spells, has_put, In, within, listed_op, has_end, has_new}
use Rattle.std.proofs.lemmas.Option.{same_Some}

-- slot k has operation x, which is held
pub record FoundHeld (slots : List Row) (x k : ℕ) : Type 0 where
  pub used : Used slots k
  pub out : (row_at slots k).live ≡ false
  pub id : (row_at slots k).head.id ≡ x

-- the slot of the head n before which it is inserted
abbrev pub Before : List Row → List ℕ → ℕ → Option ℕ → Option ℕ → Type 0
Before slots homes n None None = Unit {0}
Before slots homes n None (Some b) = ⊥
Before slots homes n (Some t) None = ⊥
Before slots homes n (Some t) (Some b) = Found slots b t × (IsItem homes t × (home_at homes t ≡ n))

-- a place of the tree: the slot of the parent, its block, and the next slot
pub record Point (slots : List Row) (homes : List ℕ) (place : Place) (a : List ℕ × ℕ) (at : Option ℕ) : Type 0 where
  pub parent : ℕ
  pub found : Found slots place.parent parent
  pub shaped_as : slice_get (row_at slots parent).shapes place.region ≡ Some (Some a)
  pub before : Before slots homes a.1 at place.before

pub bare_spells : (slots : List Row) (lists : List (List ℕ)) (xs : List RegionShape) → ((r : ℕ) (a : List ℕ × ℕ) → slice_get xs r ≡ Some (Some a) → list_at lists a.1 ≡ []) → SpellsRegions slots lists xs (bare_regions xs)
bare_spells slots lists [] f = tt
bare_spells slots lists (None ∷ xs) f = (tt, bare_spells slots lists xs (λ r. f (suc r)))
bare_spells slots lists (Some a ∷ xs) f = ((refl, subst (λ l. SpellsOps slots lists l no_ops) (sym (f 0 a refl)) tt), bare_spells slots lists xs (λ r. f (suc r)))

module _ (slots : List Row) (keys : ℕ → Option ℕ) (sibs : Lists) (root : ℕ) (t : Op) (r : Right slots keys sibs root t) (s : SpellsOp slots sibs.lists root t) (laws : Laws sibs.lists sibs.homes)
    (x k : ℕ) (fk : FoundHeld slots x k) (place : Place) (a : List ℕ × ℕ) (at : Option ℕ) (point : Point slots sibs.homes place a at) where
  block_of : BlockOf slots sibs.homes point.parent place.region a
  block_of = r.blocks point.parent place.region a (r.live_used point.parent point.found.live) point.shaped_as

  pub point_head : IsHead sibs.homes a.1
  point_head = block_of.head

  pub slot_free : IsFree sibs.homes k
  slot_free = (r.held k fk.used fk.out).out

  live_out : (q : ℕ) → Live slots q → q ≡ k → ⊥
  live_out q l e = false≢true (sym fk.out ∙ ap (λ z. (row_at slots z).live) (sym e) ∙ l.live)

  same_slot : (q : ℕ) → Used slots q → (row_at slots q).head.id ≡ x → q ≡ k
  same_slot q u e = same_Some q k (sym (r.keyed q u) ∙ ap keys (e ∙ sym fk.id) ∙ r.keyed k fk.used)

  pub x_out : has_op x t ≡ false
  x_out = ⊎_elim
      (λ y. let w = has_live slots sibs.lists x root t s y in absurd (live_out w.0 w.1.0 (same_slot w.0 (r.live_used w.0 w.1.0) w.1.1)))
      (λ n. n) (cases_Bool (has_op x t))

  module _ (slots' : List Row) (long' : length slots' ≡ length slots)
      (same : (q : ℕ) → (q ≡ k → ⊥) → row_at slots' q ≡ row_at slots q) (come : row_at slots' k ≡ record (row_at slots k) { live = true })
      (sibs' : Lists) (el : sibs'.lists ≡ joined k a.1 at sibs.lists) (eh : sibs'.homes ≡ set sibs.homes k a.1) where
    abbrev pub o : Op
    o = bare (row_at slots k)

    kept : {A : Type 0} (f : Row → A) → f (record (row_at slots k) { live = true }) ≡ f (row_at slots k) → (q : ℕ) → f (row_at slots' q) ≡ f (row_at slots q)
    kept f e q = ⊎_elim
        (λ z. ap (λ w. f (row_at slots' w)) z ∙ ap f come ∙ e ∙ ap (λ w. f (row_at slots w)) (sym z))
        (λ n. ap f (same q n)) (cases_eq q k)

    used_to : (q : ℕ) → Used slots q → Used slots' q
    used_to q u = record { used = kept (λ z. z.used) refl q ∙ u.used }

    used_from : (q : ℕ) → Used slots' q → Used slots q
    used_from q u = record { used = sym (kept (λ z. z.used) refl q) ∙ u.used }

    was : (q : ℕ) → (q ≡ k → ⊥) → Live slots' q → Live slots q
    was q ne l = record { live = sym (ap (λ z. z.live) (same q ne)) ∙ l.live }

    live_used' : (q : ℕ) → Live slots' q → Used slots' q
    live_used' q l = used_to q (⊎_elim (λ e. subst (Used slots) (sym e) fk.used) (λ ne. r.live_used q (was q ne l)) (cases_eq q k))

    in_lists : a.1 < length sibs.lists
    in_lists = omega (arith, point_head.inside, laws.counted)

    at_home : (c : Option ℕ) (b : Option ℕ) → Before slots sibs.homes a.1 c b → AtHome sibs.lists a.1 c
    at_home None b z = tt
    at_home (Some q) None z = absurd z
    at_home (Some q) (Some b) z = λ m n. ⊎_elim (λ y. absurd (n (sym (laws.members m q y).0 ∙ z.1.1))) (λ y. y) (cases_Bool (has q (list_at sibs.lists m)))

    list_here : list_at sibs'.lists a.1 ≡ joins k at (list_at sibs.lists a.1)
    list_here = ap (λ z. list_at z a.1) el ∙ joined_same k a.1 at sibs.lists in_lists

    list_else : (m : ℕ) → (m ≡ a.1 → ⊥) → list_at sibs'.lists m ≡ list_at sibs.lists m
    list_else m n = ap (λ z. list_at z m) el ∙ joined_other k a.1 at sibs.lists (at_home at place.before point.before) m n

    -- a block with this head is the block of the place
    owner_is : (q i : ℕ) (c : List ℕ × ℕ) → Used slots q → slice_get (row_at slots q).shapes i ≡ Some (Some c) → c.1 ≡ a.1 → (q ≡ point.parent) × (i ≡ place.region)
    owner_is q i c u e z =
        let b = r.blocks q i c u e in
        (sym b.owner ∙ ap (λ w. (row_at slots w).owner) z ∙ block_of.owner, sym b.region ∙ ap (λ w. (row_at slots w).region) z ∙ block_of.region)

    bare_still : (q : ℕ) → Used slots q → (q ≡ point.parent → ⊥) → (i : ℕ) (c : List ℕ × ℕ) → slice_get (row_at slots q).shapes i ≡ Some (Some c) → list_at sibs'.lists c.1 ≡ list_at sibs.lists c.1
    bare_still q u ne i c e = list_else c.1 (λ z. ne (owner_is q i c u e z).0)

    come_spelt : SpellsOp slots' sibs'.lists k o
    come_spelt = (
      ap (λ z. z.live) come,
      (
        ap (λ z. z.head) come,
        subst (λ z. SpellsRegions slots' sibs'.lists z (bare_regions (row_at slots k).shapes)) (sym (ap (λ z. z.shapes) come))
            (bare_spells slots' sibs'.lists (row_at slots k).shapes (λ i c e. bare_still k fk.used (λ z. live_out point.parent point.found.live (sym z)) i c e ∙ (r.held k fk.used fk.out).bare i c e)),
      ),
    )

    names : (c b : Option ℕ) → Before slots sibs.homes a.1 c b → Names slots' c b
    names None None z = tt
    names None (Some b) z = absurd z
    names (Some q) None z = absurd z
    names (Some q) (Some b) z = (
      kept (λ w. w.head.id) refl q ∙ z.0.id,
      λ w l e. same_Some w q (sym (r.keyed w (used_from w (live_used' w l))) ∙ ap keys (sym (kept (λ y. y.head.id) refl w) ∙ e ∙ sym z.0.id) ∙ r.keyed q (r.live_used q z.0.live)),
    )

    shapes_of : (q i : ℕ) (c : List ℕ × ℕ) → slice_get (row_at slots' q).shapes i ≡ Some (Some c) → slice_get (row_at slots q).shapes i ≡ Some (Some c)
    shapes_of q i c e = sym (ap (λ z. slice_get z i) (kept (λ z. z.shapes) refl q)) ∙ e

    pub join_spells : SpellsOp slots' sibs'.lists root (put place o t)
    join_spells = lists_spells slots' sibs.lists sibs'.lists (put_here place o) step root t
        (rows_spells slots slots' sibs.lists x (λ q l n. same q (live_out q l)) root t x_out s)
      where
        step : (q i : ℕ) (c : List ℕ × ℕ) (os : Ops) → Live slots' q → slice_get (row_at slots' q).shapes i ≡ Some (Some c) → SpellsOps slots' sibs'.lists (list_at sibs.lists c.1) os
            → SpellsOps slots' sibs'.lists (list_at sibs'.lists c.1) (put_here place o (row_at slots' q).head.id i os)
        step q i c os l e z = ⊎_elim
            (λ y.
            let w = owner_is q i c (used_from q (live_used' q l)) (shapes_of q i c e) y in
            let id : eqb (row_at slots' q).head.id place.parent ≡ true = eq-eqb (row_at slots' q).head.id place.parent (kept (λ v. v.head.id) refl q ∙ ap (λ v. (row_at slots v).head.id) w.0 ∙ point.found.id) in
            let reg : eqb i place.region ≡ true = eq-eqb i place.region w.1 in
            let here : is_in_block place (row_at slots' q).head.id i ≡ true = rw (id, reg) refl in
            subst (λ v. SpellsOps slots' sibs'.lists v (put_here place o (row_at slots' q).head.id i os)) (sym (ap (list_at sibs'.lists) y ∙ list_here))
            (subst (λ v. SpellsOps slots' sibs'.lists (joins k at (list_at sibs.lists a.1)) v) (sym (cond-true (is_in_block place (row_at slots' q).head.id i) (put_in place.before o os) os here))
            (put_spells slots' sibs'.lists k o come_spelt at place.before (names at place.before point.before) (list_at sibs.lists a.1) os (laws.once a.1)
            (subst (λ v. SpellsOps slots' sibs'.lists (list_at sibs.lists v) os) y z))))
            (λ y.
            let here : is_in_block place (row_at slots' q).head.id i ≡ false = not_here q i c l e y in
            subst (λ v. SpellsOps slots' sibs'.lists v (put_here place o (row_at slots' q).head.id i os)) (sym (list_else c.1 y))
            (subst (λ v. SpellsOps slots' sibs'.lists (list_at sibs.lists c.1) v) (sym (cond-false (is_in_block place (row_at slots' q).head.id i) (put_in place.before o os) os here)) z))
            (cases_eq c.1 a.1)
          where
            not_here : (q i : ℕ) (c : List ℕ × ℕ) → Live slots' q → slice_get (row_at slots' q).shapes i ≡ Some (Some c) → (c.1 ≡ a.1 → ⊥) → is_in_block place (row_at slots' q).head.id i ≡ false
            not_here q i c l e y = ⊎_elim
                (λ f. ⊎_elim
                (λ g.
                let p : q ≡ point.parent = same_Some q point.parent (sym (r.keyed q (used_from q (live_used' q l))) ∙ ap keys (sym (kept (λ v. v.head.id) refl q) ∙ f ∙ sym point.found.id) ∙ r.keyed point.parent (r.live_used point.parent point.found.live)) in
                let m : Some (Some c) ≡ Some (Some a) = sym (shapes_of q i c e) ∙ ap (λ v. slice_get (row_at slots v).shapes i) p ∙ ap (slice_get (row_at slots point.parent).shapes) g ∙ point.shaped_as in
                let n : c ≡ a = cc in
                absurd (y (ap (λ v. v.1) n)))
                (λ g. rw (ne_eqb i place.region g) (both_false (eqb (row_at slots' q).head.id place.parent)))
                (cases_eq i place.region))
                (λ f. rw (ne_eqb (row_at slots' q).head.id place.parent f) refl)
                (cases_eq (row_at slots' q).head.id place.parent)
              where
                both_false : (b : Bool) → (b && false) ≡ false
                both_false true = refl
                both_false false = refl

    is_at : (c b : Option ℕ) → Before slots sibs.homes a.1 c b → has k (joins k c (list_at sibs.lists a.1)) ≡ true
    is_at None b z = has_end k (list_at sibs.lists a.1)
    is_at (Some q) None z = absurd z
    is_at (Some q) (Some b) z = has_new k q (list_at sibs.lists a.1) (subst (λ v. has q (list_at sibs.lists v) ≡ true) z.1.1 (laws.covers q z.1.0))

    comes : has_op x (put place o t) ≡ true
    comes = within place.parent x (put place o t) (go (find place.parent (put place o t)) refl
        (find_spelt slots' sibs'.lists place.parent point.parent
        (λ q l e. same_Some q point.parent (sym (r.keyed q (used_from q (live_used' q l))) ∙ ap keys (sym (kept (λ v. v.head.id) refl q) ∙ e ∙ sym point.found.id) ∙ r.keyed point.parent (r.live_used point.parent point.found.live)))
        root (put place o t) join_spells (has_put place o place.parent t (there slots keys sibs root t r s place.parent point.parent point.found))))
      where
        go : (m : Option Op) → find place.parent (put place o t) ≡ m → Spelt slots' sibs'.lists point.parent m → In place.parent x m
        go None e w = absurd w
        go (Some p) e w =
            subst (λ v. has_op v p ≡ true) (kept (λ v. v.head.id) refl k ∙ fk.id)
            (listed_op slots' sibs'.lists k point.parent p w place.region a (ap (λ z. slice_get z place.region) (kept (λ z. z.shapes) refl point.parent) ∙ point.shaped_as)
            (ap (has k) list_here ∙ is_at at place.before point.before))

    pub join_right : Right slots' keys sibs' root (put place o t)
    join_right =
        let long : length sibs'.homes ≡ length sibs.homes = ap length eh ∙ length-set sibs.homes k a.1 in
        let home : (q : ℕ) → (q ≡ k → ⊥) → home_at sibs'.homes q ≡ home_at sibs.homes q = λ q ne. ap (λ z. home_at z q) eh ∙ get_or-set_other sibs.homes k q a.1 free ne in
        let own : home_at sibs'.homes k ≡ a.1 = ap (λ z. home_at z k) eh ∙ get_or-set_same sibs.homes k a.1 free slot_free.inside in
        let apart : (h : ℕ) → IsHead sibs.homes h → h ≡ k → ⊥ = λ h p e. (let f : h ≡ free = sym p.own ∙ ap (home_at sibs.homes) e ∙ slot_free.unlinked in let few = r.few in let l : h < length sibs.homes = p.inside in omega arith) in
        let head_still : (h : ℕ) → IsHead sibs.homes h → IsHead sibs'.homes h = λ h p. record { inside = omega (arith, p.inside, long); own = home h (apart h p) ∙ p.own } in
        record {
          few = omega (arith, long, r.few);
          long = long' ∙ r.long ∙ sym long;
          live_used = live_used';
          keyed = λ q w. ap keys (kept (λ z. z.head.id) refl q) ∙ r.keyed q (used_from q w);
          known = λ y q e. let old = r.known y q e in record { used = used_to q old.used; id = kept (λ z. z.head.id) refl q ∙ old.id };
          top = record { inside = omega (arith, r.top.inside, long); unlinked = home root root_not ∙ r.top.unlinked };
          blocks = λ q i c w e.
              let old = r.blocks q i c (used_from q w) (shapes_of q i c e) in
              record { head = head_still c.1 old.head; owner = kept (λ z. z.owner) refl c.1 ∙ old.owner; region = kept (λ z. z.region) refl c.1 ∙ old.region };
          items = λ q l ne. ⊎_elim
              (λ e. subst (Placed sibs'.homes) (sym e) (record {
                item = record {
                  inside = omega (arith, slot_free.inside, long);
                  linked = λ g. (let f : a.1 ≡ free = sym own ∙ g in let few = r.few in let i : a.1 < length sibs.homes = point_head.inside in omega arith);
                  other = λ g. apart a.1 point_head (sym own ∙ g);
                };
                head = rw own (head_still a.1 point_head);
              }))
              (λ nk.
              let old = r.items q (was q nk l) ne in
              let h = home q nk in
              record {
                item = record { inside = omega (arith, old.item.inside, long); linked = λ g. old.item.linked (sym h ∙ g); other = λ g. old.item.other (sym h ∙ g) };
                head = rw h (head_still (home_at sibs.homes q) old.head);
              })
              (cases_eq q k);
          held = λ q w d.
              let ne : q ≡ k → ⊥ = λ e. false≢true (sym d ∙ ap (λ z. (row_at slots' z).live) e ∙ ap (λ z. z.live) come) in
              let out : (row_at slots q).live ≡ false = sym (ap (λ z. z.live) (same q ne)) ∙ d in
              let old = r.held q (used_from q w) out in
              record {
                out = record { inside = omega (arith, old.out.inside, long); unlinked = home q ne ∙ old.out.unlinked };
                bare = λ i c f.
                    let g = shapes_of q i c f in
                    bare_still q (used_from q w) (λ e. false≢true (sym out ∙ ap (λ z. (row_at slots z).live) e ∙ point.found.live.live)) i c g ∙ old.bare i c g;
              };
          covers = λ q l. ⊎_elim
              (λ e.
              let id : (row_at slots' q).head.id ≡ x = ap (λ z. (row_at slots' z).head.id) e ∙ kept (λ z. z.head.id) refl k ∙ fk.id in
              ap (λ z. has_id z (put place o t)) id ∙ sym (has_is x (put place o t)) ∙ comes)
              (λ ne.
              let id = (row_at slots q).head.id in
              ap (λ z. has_id z.head.id (put place o t)) (same q ne) ∙ sym (has_is id (put place o t)) ∙ has_put place o id t (has_is id t ∙ r.covers q (was q ne l)))
              (cases_eq q k);
        }
      where
        root_not : root ≡ k → ⊥
        root_not e = live_out root (go t s) e
          where
            go : (w : Op) → SpellsOp slots sibs.lists root w → Live slots root
            go (op h rs) z = record { live = z.0 }

    -- the operation isn't held any more
    pub join_holds : (m : finmap.FinMap nat_cmp Op) → ((y : ℕ) → finmap.get m y ≡ held_in slots (keys y)) → (y : ℕ) → finmap.get (finmap.remove m x) y ≡ held_in slots' (keys y)
    join_holds m h y = finmap.get-remove nat_cmp_total m x y ∙ ap (λ b. cond b None (finmap.get m y)) (eq_nat y x) ∙ ⊎_elim
        (λ e.
        let here : keys y ≡ Some k = ap keys (e ∙ sym fk.id) ∙ r.keyed k fk.used in
        let w : held_in slots' (Some k) ≡ None = rw come refl in
        cond-true (eqb y x) None (finmap.get m y) (eq-eqb y x e) ∙ sym w ∙ ap (held_in slots') (sym here))
        (λ n. cond-false (eqb y x) None (finmap.get m y) (ne_eqb y x n) ∙ h y ∙ others y n (keys y) refl)
        (cases_eq y x)
      where
        others : (y : ℕ) → (y ≡ x → ⊥) → (m : Option ℕ) → keys y ≡ m → held_in slots m ≡ held_in slots' m
        others y n None f = refl
        others y n (Some q) f = rw (same q (λ e. n (sym (r.known y q f).id ∙ ap (λ z. (row_at slots z).head.id) e ∙ fk.id))) refl

    -- the operation was held
    pub was_held : (m : finmap.FinMap nat_cmp Op) → ((y : ℕ) → finmap.get m y ≡ held_in slots (keys y)) → finmap.get m x ≡ Some o
    was_held m h = h x ∙ ap (held_in slots) (ap keys (sym fk.id) ∙ r.keyed k fk.used) ∙ rw fk.out refl

    pub join_gone : (y : ℕ) → gone_in slots (keys y) ≡ gone_in slots' (keys y)
    join_gone y = go (keys y)
      where
        go : (m : Option ℕ) → gone_in slots m ≡ gone_in slots' m
        go None = refl
        go (Some q) = ap Some (sym (kept (λ z. z.gone) refl q))
