-- Adding slots to a store.
use Rattle.std.proofs.Common.{◌≡◌, ℕ, ◌<◌, List, set, eqb, cond, false, refl, sym, ap, ◌∙◌, subst, length, ⊎_elim, Option, Some, None}
use Rattle.std.specs.FinMap as finmap
use Rattle.std.specs.Ordering.{nat_cmp}
use Rattle.std.specs.Cmp.{nat_cmp_total}
use Rattle.std.proofs.lemmas.Bool.{cases_Bool, cases_eq, eq-eqb, ne_eqb, cases_lt}
use Rattle.ir_store_reads.proofs.Items.{eq_nat}
use Rattle.ir_store_reads.specs.Lists.{Laws, free}
use Rattle.ir_store_reads.specs.trees.Tree.{Op}
use Rattle.ir_store_reads.specs.trees.Ids.{HasDistinctIds, find, first_of, op_count}
use Rattle.ir_store.specs.declared.store.Store.TheInside.{Inside}
use Rattle.ir_store_reads.specs.Stored.{Stored, known}
use Rattle.ir_store_reads.specs.Emptied.{after_grow}
use Rattle.ir_store_reads.specs.Rows.{Row, no_row, row_at, held_in, gone_in, if_live, bare}
use Rattle.ir_store_reads.specs.Spells.{SpellsOp, Represented, rendered_is}
use Rattle.ir_store.specs.Holds.{HoldsOf, GoneOf, map_is}
use Rattle.ir_store_reads.specs.Right.{Right}
use Rattle.ir_store_reads.specs.Index.{Index, Celled, Fits, lives, HasOwners}
use Rattle.ir_store_reads.specs.Grows.{Parts, parts_of, IsEven, Wider, Ready, Grown}
use Rattle.ir_store_reads.proofs.SlotLaws.{found, found_op}
use Rattle.ir_store.proofs.Called.{rows_in, keys_in, stored}
use Rattle.ir_store.proofs.Whole.{Whole}
use Rattle.std.specs.Prelude.{if◌then◌else◌}
use Rattle.ir_store_reads.specs.Marks.{mark, has_gone, home_of, node_of_slot, Marked, CanMark, Reaches}
use Rattle.ir_store_reads.proofs.Marking.{marked_edit, marked_same, marked_more, can_mark}
use Rattle.std.proofs.lemmas.List.{get_or_past}
use Rattle.ir_store_reads.proofs.Wide.{Keyed, keyed_of, wide_spells, wide_right, wide_holds, wide_gone, wide_index, wide_bound}
use Rattle.ir_store.proofs.Tally.{wide_below, wide_owned, fill_below, fill_owned}
use Rattle.ir_store_reads.proofs.Celled.{wide_celled}
use Rattle.ir_store.proofs.Fill.{IsApart, bound_apart, fill_spells, fill_right, fill_holds, fill_gone, fill_index, fill_celled}
use Rattle.ir_store.proofs.Refill.{cells_apart}

-- an id gets a slot
pub key_put : (m m' : finmap.FinMap nat_cmp ℕ) (x y k : ℕ) → y ≡ x → m' ≡ finmap.insert m y k → (z : ℕ) → finmap.get m' z ≡ cond (eqb x z) (Some k) (finmap.get m z)
key_put m m' x y k ey e z =
    ap (λ l. finmap.get l z) (e ∙ ap (λ w. finmap.insert m w k) ey) ∙ finmap.get-insert nat_cmp_total m x k z
    ∙ ap (λ b. cond b (Some k) (finmap.get m z)) (eq_nat z x ∙ ⊎_elim (λ f. eq-eqb z x f ∙ sym (eq-eqb x z (sym f))) (λ n. ne_eqb z x n ∙ sym (ne_eqb x z (λ f. n (sym f)))) (cases_eq z x))

-- the id loses the slot again
pub key_back : (m m' m'' : finmap.FinMap nat_cmp ℕ) (x y z k : ℕ) → y ≡ x → z ≡ x → m' ≡ finmap.insert m y k → m'' ≡ finmap.remove m' z → finmap.get m x ≡ None → (q : ℕ) → finmap.get m'' q ≡ finmap.get m q
key_back m m' m'' x y z k ey ez e f none q = ⊎_elim
    (λ s. ap (finmap.get m'') s ∙ own ∙ sym none ∙ ap (finmap.get m) (sym s))
    (λ n. ap (λ l. finmap.get l q) removed ∙ other n ∙ key_put m m' x y k ey e q ∙ ap (λ b. cond b (Some k) (finmap.get m q)) (ne_eqb x q (λ s. n (sym s))))
    (cases_eq q x)
  where
    removed : m'' ≡ finmap.remove m' x
    removed = f ∙ ap (finmap.remove m') ez

    look : (l : ℕ) → finmap.get m'' l ≡ cond (eqb l x) None (finmap.get m' l)
    look l = ap (λ s. finmap.get s l) removed ∙ finmap.get-remove nat_cmp_total m' x l ∙ ap (λ b. cond b None (finmap.get m' l)) (eq_nat l x)

    own : finmap.get m'' x ≡ None
    own = look x ∙ ap (λ b. cond b None (finmap.get m' x)) (eq-eqb x x refl)

    other : (q ≡ x → ⊥) → finmap.get (finmap.remove m' x) q ≡ finmap.get m' q
    other n = sym (ap (λ s. finmap.get s q) removed) ∙ look q ∙ ap (λ b. cond b None (finmap.get m' q)) (ne_eqb q x n)

pub spare_mark : (b : Row) → b.used ≡ false → b.live ≡ false → mark b ≡ mark no_row
spare_mark b e f = ap (λ l. if l then (if has_gone b.gone then Some 1 else None) else (if b.used then Some 0 else None)) f ∙ ap (λ u. if u then Some 0 else None) e

abbrev pub parts : Inside → Parts
parts a = parts_of a.slots a.sibs a.uses a.cells.items

module _ (a : Inside) (w : Whole a) where
  pub is_even : Laws a.sibs.lists a.sibs.homes → IsEven (parts a)
  is_even l = record { long = w.right.long; lists = l.counted; counted = w.index.counted }

  keyed : Keyed (rows_in a) (keys_in a) a.sibs
  keyed = keyed_of (rows_in a) (keys_in a) a.sibs a.root a.represented.0 w.right

  -- an operation that isn't known has no slot
  pub no_key : (x : ℕ) → known x (stored a) ≡ None → keys_in a x ≡ None
  no_key x e = go (keys_in a x) refl
    where
      first : (o m : Option Op) → first_of o m ≡ None → (o ≡ None) × (m ≡ None)
      first None m e = (refl, e)
      first (Some o) m e = absurd cc

      go : (o : Option ℕ) → keys_in a x ≡ o → o ≡ None
      go None f = refl
      go (Some k) f =
          let b = first (find x a.represented.0) (finmap.get a.holds.0 x) e in
          ⊎_elim
          (λ l.
          let fd = found (rows_in a) (keys_in a) a.sibs a.root a.represented.0 w.right a.represented.1 x k (ap (if_live (rows_in a)) f ∙ rw l refl) in
          let o = found_op (rows_in a) (keys_in a) a.sibs a.root a.represented.0 w.right a.represented.1 x k fd in
          let z : None ≡ Some o.0 = sym b.0 ∙ o.1.0 in absurd cc)
          (λ l.
          let h : finmap.get a.holds.0 x ≡ Some (bare (row_at (rows_in a) k)) = a.holds.1 x ∙ ap (held_in (rows_in a)) f ∙ rw l refl in
          let z : None ≡ Some (bare (row_at (rows_in a) k)) = sym b.1 ∙ h in absurd cc)
          (cases_Bool (row_at (rows_in a) k).live)

  module _ (q : Parts) (wide : Wider (parts a) q) (few : length q.sibs.homes < free) (uses_few : length q.homes < free) where
    spells : SpellsOp q.slots q.sibs.lists a.root a.represented.0
    spells = wide_spells (parts a) q wide (keys_in a) a.root a.represented.0 w.right a.represented.1

    right : Right q.slots (keys_in a) q.sibs a.root a.represented.0
    right = wide_right (parts a) q wide (keys_in a) a.root a.represented.0 w.right few

    index : Index q.slots (keys_in a) q.homes q.cells (lives q.slots)
    index = wide_index (parts a) q wide (keys_in a) keyed w.index

    more_rows : {A : Type 0} (f : Row → A) → ((b : Row) → b.used ≡ false → b.live ≡ false → f b ≡ f no_row) → (k : ℕ) → f (row_at q.slots k) ≡ f (row_at (rows_in a) k)
    more_rows f e k = ⊎_elim
        (λ l. ap f (wide.row k l))
        (λ g. let z = wide.spare k g in e (row_at q.slots k) z.used z.live ∙ ap f (sym (get_or_past (rows_in a) k no_row g)))
        (cases_lt k (length (rows_in a)))

    marked : Marked q.slots a.marks.homes
    marked = marked_same (rows_in a) q.slots a.marks.homes w.marked (more_rows mark spare_mark) (more_rows (λ z. z.used) (λ b e f. e))

    pub grow_can_mark : (mid : List ℕ) → Reaches a.marks.homes mid → (k : ℕ) → node_of_slot k < length mid → CanMark mid k
    grow_can_mark mid reached k l = can_mark q.slots mid k (marked_more q.slots a.marks.homes mid marked reached) l

    celled : Celled q.slots q.cells
    celled = wide_celled (parts a) q wide (keys_in a) keyed w.index w.celled

    -- the call failed
    module _ (keys : ℕ → Option ℕ) (ek : (y : ℕ) → keys y ≡ keys_in a y) where
      all_keys : keys ≡ keys_in a
      all_keys = λ i y. ek y i

      holds : (y : ℕ) → finmap.get a.holds.0 y ≡ held_in q.slots (keys y)
      holds y = a.holds.1 y ∙ wide_holds (parts a) q wide (keys_in a) a.root a.represented.0 w.right y ∙ ap (held_in q.slots) (sym (ek y))

      gone : (y : ℕ) → finmap.get a.lacks.0 y ≡ gone_in q.slots (keys y)
      gone y = a.lacks.1 y ∙ wide_gone (parts a) q wide (keys_in a) a.root a.represented.0 w.right y ∙ ap (gone_in q.slots) (sym (ek y))

      pub wide_given : Represented q.slots q.sibs.lists a.root × (HoldsOf q.slots keys × (GoneOf q.slots keys × Unit {0}))
      wide_given = ((a.represented.0, spells), ((a.holds.0, holds), ((a.lacks.0, gone), tt)))

      pub wide_fits : (s : Represented q.slots q.sibs.lists a.root) (marks : List ℕ) → Reaches a.marks.homes marks → Fits q.slots keys q.sibs a.root s.0 q.homes q.cells a.count a.next marks
      wide_fits s marks reached = record {
        right = subst (Right q.slots keys q.sibs a.root) (sym (rendered_is q.slots q.sibs.lists a.root s a.represented.0 spells)) (subst (λ z. Right q.slots z q.sibs a.root a.represented.0) (sym all_keys) right);
        few = uses_few;
        index = subst (λ z. Index q.slots z q.homes q.cells (lives q.slots)) (sym all_keys) index;
        distinct = subst HasDistinctIds (sym (rendered_is q.slots q.sibs.lists a.root s a.represented.0 spells)) w.distinct;
        counted = w.counted ∙ ap op_count (sym (rendered_is q.slots q.sibs.lists a.root s a.represented.0 spells));
        below = wide_below (parts a) q wide (keys_in a) a.next w.below;
        owned = subst (HasOwners q.slots) (sym all_keys) (wide_owned (parts a) q wide (keys_in a) w.owned);
        marked = marked_more q.slots a.marks.homes marks marked reached;
        celled = celled;
      }

      pub wide_done : (s : Represented q.slots q.sibs.lists a.root) (h : HoldsOf q.slots keys) (g : GoneOf q.slots keys) → ◌≡◌ {A = Stored} (record { module_of = record { tree = s.0; next = a.next }; held = h.0; gone = g.0 }) (stored a)
      wide_done s h g =
          let e1 = rendered_is q.slots q.sibs.lists a.root s a.represented.0 spells in
          let e2 = map_is (λ y. held_in q.slots (keys y)) h a.holds.0 holds in
          let e3 = map_is (λ y. gone_in q.slots (keys y)) g a.lacks.0 gone in
          λ i. record { module_of = record { tree = e1 i; next = a.next }; held = e2 i; gone = e3 i }

    -- new heads differ from all others
    pub grow_apart : (k : ℕ) (v : Row) → IsApart q (keys_in a) (length (parts a).homes) k v
    grow_apart k v = bound_apart q (keys_in a) (length (parts a).homes) k v (wide_bound (parts a) q wide (keys_in a) keyed w.index)

    -- the heads of a free slot differ from all others
    pub spare_apart : (bound k x : ℕ) (v : Row) → Ready q (keys_in a) bound k x v → IsApart q (keys_in a) bound k v
    spare_apart bound k x v ready = cells_apart q (keys_in a) a.root a.represented.0 right celled bound k x v ready

    -- a row is written
    module _ (x : ℕ) (o : Op) (k : ℕ) (v : Row) (none : keys_in a x ≡ None) (bound : ℕ) (grown : Grown bound q x o k v) (apart : IsApart q (keys_in a) bound k v)
        (keys : ℕ → Option ℕ) (here : keys x ≡ Some k) (others : (y : ℕ) → (y ≡ x → ⊥) → keys y ≡ keys_in a y)
        (slots' : List Row) (long' : length slots' ≡ length q.slots) (same : (y : ℕ) → (y ≡ k → ⊥) → row_at slots' y ≡ row_at q.slots y) (own : row_at slots' k ≡ v) where
      ready : Ready q (keys_in a) bound k x v
      ready = grown.ready (keys_in a) none

      spells' : SpellsOp slots' q.sibs.lists a.root a.represented.0
      spells' = fill_spells q wide.even few (keys_in a) bound k x v ready a.root a.represented.0 right slots' long' same own keys here others spells

      holds' : (y : ℕ) → finmap.get (finmap.insert a.holds.0 x (bare v)) y ≡ held_in slots' (keys y)
      holds' = fill_holds q wide.even few (keys_in a) bound k x v ready a.root a.represented.0 right slots' long' same own keys here others a.holds.0
          (λ y. a.holds.1 y ∙ wide_holds (parts a) q wide (keys_in a) a.root a.represented.0 w.right y)

      gone' : (y : ℕ) → finmap.get (finmap.insert a.lacks.0 x v.gone) y ≡ gone_in slots' (keys y)
      gone' = fill_gone q wide.even few (keys_in a) bound k x v ready a.root a.represented.0 right slots' long' same own keys here others a.lacks.0
          (λ y. a.lacks.1 y ∙ wide_gone (parts a) q wide (keys_in a) a.root a.represented.0 w.right y)

      pub grow_given : Represented slots' q.sibs.lists a.root × (HoldsOf slots' keys × (GoneOf slots' keys × Unit {0}))
      grow_given = ((a.represented.0, spells'), ((finmap.insert a.holds.0 x (bare v), holds'), ((finmap.insert a.lacks.0 x v.gone, gone'), tt)))

      pub grow_fits : (s : Represented slots' q.sibs.lists a.root) (mid marks : List ℕ) → Reaches a.marks.homes mid → node_of_slot k < length mid → marks ≡ set mid (node_of_slot k) (home_of (mark (row_at slots' k))) → Fits slots' keys q.sibs a.root s.0 q.homes q.cells a.count a.next marks
      grow_fits s mid marks reached there em = record {
        right = subst (Right slots' keys q.sibs a.root) (sym (rendered_is slots' q.sibs.lists a.root s a.represented.0 spells'))
            (fill_right q wide.even few (keys_in a) bound k x v ready a.root a.represented.0 right slots' long' same own keys here others);
        few = uses_few;
        index = fill_index q wide.even few (keys_in a) bound k x v ready (keyed_of q.slots (keys_in a) q.sibs a.root a.represented.0 right) slots' long' same own keys here others
            apart index;
        distinct = subst HasDistinctIds (sym (rendered_is slots' q.sibs.lists a.root s a.represented.0 spells')) w.distinct;
        counted = w.counted ∙ ap op_count (sym (rendered_is slots' q.sibs.lists a.root s a.represented.0 spells'));
        below = fill_below q (keys_in a) bound k x v ready slots' same own keys others a.next (wide_below (parts a) q wide (keys_in a) a.next w.below);
        owned = fill_owned q (keys_in a) bound k x v ready slots' same own keys others (wide_owned (parts a) q wide (keys_in a) w.owned);
        marked = marked_edit q.slots slots' mid marks k (marked_more q.slots a.marks.homes mid marked reached) there same em;
        celled = fill_celled q wide.even few (keys_in a) bound k x v ready (keyed_of q.slots (keys_in a) q.sibs a.root a.represented.0 right) slots' long' same own keys here others celled;
      }

      pub grow_done : (s : Represented slots' q.sibs.lists a.root) (h : HoldsOf slots' keys) (g : GoneOf slots' keys) → ◌≡◌ {A = Stored} (record { module_of = record { tree = s.0; next = a.next }; held = h.0; gone = g.0 }) (after_grow x o (stored a))
      grow_done s h g =
          let e1 = rendered_is slots' q.sibs.lists a.root s a.represented.0 spells' in
          let e2 = map_is (λ y. held_in slots' (keys y)) h (finmap.insert a.holds.0 x (bare v)) holds' ∙ ap (finmap.insert a.holds.0 x) grown.is in
          let e3 = map_is (λ y. gone_in slots' (keys y)) g (finmap.insert a.lacks.0 x v.gone) gone' ∙ ap (finmap.insert a.lacks.0 x) grown.gone in
          λ i. record { module_of = record { tree = e1 i; next = a.next }; held = e2 i; gone = e3 i }
