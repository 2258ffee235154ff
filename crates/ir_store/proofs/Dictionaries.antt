-- Setting an entry, in the form of the calls' contracts.
use Rattle.std.proofs.Common.{◌≡◌, ℕ, ◌<◌, List, [], set, get_or, refl, sym, ap, ◌∙◌, subst, length, Bool, true, false, ◌||◌, Option, Some, None, arith, ◌⊎◌, inl, inr, ⊎_elim}
use Rattle.std.specs.Prelude.{if◌then◌else◌, Result, Ok, Err, OnOk, OnErr, is_some, option_map}
use Rattle.std.specs.FinMap as finmap
use Rattle.std.proofs.lemmas.Bool.{false≢true}
use Rattle.ir_store_reads.specs.types.declared.refusal.Refusal.{Refusal}
use Rattle.ir_store_reads.specs.types.declared.refusal.Refusal.TheVariants.{NoSuchKey, Memory}
use Rattle.ir_store_reads.specs.types.Reasons.{IsRefusedFor}
use Rattle.ir_store_reads.specs.trees.declared.place.Part.{Part}
use Rattle.ir_store_reads.specs.trees.declared.place.Part.TheVariants.{Props, Attrs}
use Rattle.ir_store_reads.specs.trees.Tree.{Head, Op, op, head}
use Rattle.ir_store_reads.specs.trees.Ids.{find, has_id}
use Rattle.ir_store_reads.specs.trees.Limits.{every}
use Rattle.ir_store_reads.specs.trees.Meaning.{dictionaries_rise, rises}
use Rattle.ir_store_reads.specs.trees.Edits.{at, part_of, change_part, change_entry, with_entry, entry_at}
use Rattle.ir_store_reads.specs.tree_laws.Reasons.{entry_reason, found_entry_reason, set_entry_reason}
use Rattle.ir_store_reads.proofs.of_tree_laws.Listed.{all_each, both}
use Rattle.ir_store_reads.specs.tree_laws.Stands.{stands as all_stands}
use Rattle.ir_store_reads.proofs.of_tree_laws.Readings.{stands_every}
use Rattle.ir_store_reads.proofs.of_tree_laws.Members.{found_stands}
use Rattle.ir_store_reads.specs.Slots.{gone_after, has_key, has_slot as is_slot}
use Rattle.ir_store.specs.declared.store.Store.TheInside.{Inside}
use Rattle.ir_store_reads.specs.Nodes.{node_of}
use Rattle.ir_store_reads.specs.Stored.{Stored, Gone, change_gone, known, has_entry, has_slot, stands, is_some_with}
use Rattle.ir_store.specs.Calls.{after_entry, change_gone_of}
use Rattle.ir_store_reads.specs.Rows.{Row, row_at, node_row, live_slot, held_in, gone_in}
use Rattle.ir_store_reads.specs.Spells.{SpellsOp, Represented, rendered_is}
use Rattle.ir_store.specs.Holds.{HoldsOf, GoneOf, map_is}
use Rattle.ir_store_reads.specs.Marks.{mark, home_of, node_of_slot}
use Rattle.ir_store_reads.proofs.Celled.{celled_edit}
use Rattle.ir_store_reads.proofs.Marking.{marked_edit}
use Rattle.ir_store_reads.specs.Index.{Fits, cells_of}
use Rattle.ir_store_reads.specs.Entered.{slots_in, row_with_entry, slot_unless, entry_in}
use Rattle.ir_store.proofs.Distinct.{each_distinct}
use Rattle.ir_store_reads.proofs.SlotLaws.{Found, found, found_op, none_found, node_known, in_tree_is}
use Rattle.ir_store.proofs.Called.{rows_in, keys_in, stored}
use Rattle.ir_store.proofs.OneRow.{put_long, put_own, put_other}
use Rattle.ir_store.proofs.Whole.{Whole}
use Rattle.ir_store.proofs.Entering.{Inner, same_at, retold_spells, retold_right, retold_holds, retold_gone, retold_index, retold_below, retold_owned, retold_counted}

-- a change of a dictionary doesn't affect other operations
pub inner_part : (part : Part) (f : List (ℕ × ℕ) → List (ℕ × ℕ)) → Inner (change_part part f)
inner_part Props f = record { id = λ h. refl; operands = λ h. refl; results = λ h. refl }
inner_part Attrs f = record { id = λ h. refl; operands = λ h. refl; results = λ h. refl }

same_head : (slots : List Row) (lists : List (List ℕ)) (k : ℕ) (o : Op) → SpellsOp slots lists k o → (row_at slots k).head ≡ head o
same_head slots lists k (op h rs) w = w.1.0

-- a key to remove is present
pub there_before : (before : ℕ → ℕ → Bool) (j : ℕ) (v : Option ℕ) (es : List (ℕ × ℕ)) → entry_reason before j v es ≡ None → v ≡ None → is_some (entry_at before j es) ≡ true
there_before before j (Some b) es e f = absurd cc
there_before before j None es e f = go (is_some (entry_at before j es)) e
  where
    go : (b : Bool) → (if b then None else Some NoSuchKey) ≡ None → b ≡ true
    go true e = refl
    go false e = absurd cc

-- the reason for which a call is refused
pub refused_some : (r : Option Refusal) (e : Refusal) → r ≡ Some e → IsRefusedFor {A = Unit {0}} r (Err e)
refused_some r e f = rw f refl

pub refused_memory : (r : Option Refusal) → r ≡ None → IsRefusedFor {A = Unit {0}} r (Err Memory)
refused_memory r f = rw f refl

-- an operation found in a tree passes each test that every operation of it passes
pub every_found : (p : Op → Bool) (x : ℕ) (t o : Op) → every p t ≡ true → find x t ≡ Some o → p o ≡ true
every_found p x t o e f = let s = found_stands x t o f in subst (λ z. p z ≡ true) s.3 (all_each (λ z. p z.here) (all_stands [] t) (stands_every p [] t ∙ e) s.0 s.1)

part_rises : (before : ℕ → ℕ → Bool) (part : Part) (o : Op) → dictionaries_rise before o ≡ true → rises before (part_of part (head o)) ≡ true
part_rises before Props o e = (both (rises before (head o).properties) (rises before (head o).attributes) e).0
part_rises before Attrs o e = (both (rises before (head o).properties) (rises before (head o).attributes) e).1

-- an operation and its node
node_is : (p : Head → Bool) (m : Option Op) → is_some_with (λ o. p (head o)) m ≡ is_some_with (λ n. p n.head) (option_map node_of m)
node_is p None = refl
node_is p (Some (op h rs)) = refl

module _ (a : Inside) (w : Whole a) (x : ℕ) (part : Part) (j : ℕ) where
  -- whether the row of a slot has a slot for the key
  abbrev pub slot_of : Option ℕ → Bool
  slot_of None = false
  slot_of (Some k) = is_slot j (slots_in part (row_at (rows_in a) k))

  entry_is : (o : Option ℕ) → keys_in a x ≡ o → has_entry x part j (stored a) ≡ is_some_with (λ k. has_key j (part_of part (row_at (rows_in a) k).head)) o
  entry_is o e =
      node_is (λ h. has_key j (part_of part h)) (known x (stored a))
      ∙ ap (is_some_with (λ n. has_key j (part_of part n.head))) (sym (node_known (rows_in a) (keys_in a) a.sibs a.root a.represented.0 w.right a.represented.1 x (finmap.get a.holds.0 x) (a.holds.1 x) o e))
      ∙ go o
    where
      go : (o : Option ℕ) → is_some_with (λ n. has_key j (part_of part n.head)) (option_map (λ k. node_row (row_at (rows_in a) k)) o) ≡ is_some_with (λ k. has_key j (part_of part (row_at (rows_in a) k).head)) o
      go None = refl
      go (Some k) = refl

  pub slot_is : (o : Option ℕ) → keys_in a x ≡ o → slot_of o ≡ has_slot x part j (stored a)
  slot_is o e = go o ∙ sym (λ i. entry_is o e i || stands part j ((a.lacks.1 x ∙ ap (gone_in (rows_in a)) e) i))
    where
      go : (o : Option ℕ) → slot_of o ≡ (is_some_with (λ k. has_key j (part_of part (row_at (rows_in a) k).head)) o || stands part j (gone_in (rows_in a) o))
      go None = refl
      go (Some k) = refl

  module _ (before : ℕ → ℕ → Bool) (v : Option ℕ) where
    -- a slot in which the entry can be set, or the reason that it can't
    abbrev pub EntryFound : Result ℕ Refusal → Type 0
    EntryFound (Ok k) = (Some k ≡ live_slot (rows_in a) (keys_in a) x) × ((set_entry_reason before x part j v a.represented.0 ≡ None) × (entry_reason before j v (part_of part (row_at (rows_in a) k).head) ≡ None))
    EntryFound (Err e) = set_entry_reason before x part j v a.represented.0 ≡ Some e

    pub entry_found : (res : Result ℕ Refusal) → res ≡ entry_in (rows_in a) before part j v (live_slot (rows_in a) (keys_in a) x) → EntryFound res
    entry_found res e = subst EntryFound (sym e) (go (live_slot (rows_in a) (keys_in a) x) refl)
      where
        go : (o : Option ℕ) → live_slot (rows_in a) (keys_in a) x ≡ o → EntryFound (entry_in (rows_in a) before part j v o)
        go None f = ap (found_entry_reason before part j v) (none_found (rows_in a) (keys_in a) a.sibs a.root a.represented.0 w.right a.represented.1 x f)
        go (Some k) f =
            let o = found_op (rows_in a) (keys_in a) a.sibs a.root a.represented.0 w.right a.represented.1 x k (found (rows_in a) (keys_in a) a.sibs a.root a.represented.0 w.right a.represented.1 x k f) in
            let why : set_entry_reason before x part j v a.represented.0 ≡ entry_reason before j v (part_of part (row_at (rows_in a) k).head) =
            ap (found_entry_reason before part j v) o.1.0 ∙ ap (λ h. entry_reason before j v (part_of part h)) (sym (same_head (rows_in a) a.sibs.lists k o.0 o.1.1)) in
            test why (entry_reason before j v (part_of part (row_at (rows_in a) k).head)) refl
          where
            test : set_entry_reason before x part j v a.represented.0 ≡ entry_reason before j v (part_of part (row_at (rows_in a) k).head)
                → (z : Option Refusal) → entry_reason before j v (part_of part (row_at (rows_in a) k).head) ≡ z → EntryFound (slot_unless k z)
            test why None g = (sym f, (why ∙ g, g))
            test why (Some e) g = why ∙ g

    pub revert_found : has_id x a.represented.0 ≡ true → None ≡ live_slot (rows_in a) (keys_in a) x → ⊥
    revert_found e f = false≢true (ap is_some f ∙ in_tree_is (rows_in a) (keys_in a) a.sibs a.root a.represented.0 w.right a.represented.1 x ∙ e)

    module _ (k : ℕ) (ek : Some k ≡ live_slot (rows_in a) (keys_in a) x) where
      here : Found (rows_in a) x k
      here = found (rows_in a) (keys_in a) a.sibs a.root a.represented.0 w.right a.represented.1 x k (sym ek)

      pub entry_inside : k < length (rows_in a)
      entry_inside = here.inside

      abbrev edit : Head → Head
      edit = change_part part (change_entry before j v)

      abbrev lack : Gone → Gone
      lack = change_gone part (gone_after j v)

      module _ (entered : List Row) (er : entered ≡ set (rows_in a) k (row_with_entry before part j v (row_at (rows_in a) k))) where
        longs : length entered ≡ length (rows_in a)
        longs = put_long (rows_in a) entered k (row_with_entry before part j v (row_at (rows_in a) k)) er

        others : (q : ℕ) → (q ≡ k → ⊥) → row_at entered q ≡ row_at (rows_in a) q
        others = put_other (rows_in a) entered k (row_with_entry before part j v (row_at (rows_in a) k)) er

        own : row_at entered k ≡ row_with_entry before part j v (row_at (rows_in a) k)
        own = put_own (rows_in a) entered k (row_with_entry before part j v (row_at (rows_in a) k)) er entry_inside

        spelt : SpellsOp entered a.sibs.lists a.root (with_entry before x part j v a.represented.0)
        spelt = retold_spells (rows_in a) (keys_in a) a.sibs a.root a.represented.0 w.right a.represented.1 x k here edit lack (inner_part part (change_entry before j v)) entered longs others own

        holds' : (y : ℕ) → finmap.get a.holds.0 y ≡ held_in entered (keys_in a y)
        holds' y = a.holds.1 y ∙ retold_holds (rows_in a) (keys_in a) a.sibs a.root a.represented.0 w.right a.represented.1 x k here edit lack (inner_part part (change_entry before j v)) entered longs others own y

        lacks' : (y : ℕ) → finmap.get (change_gone_of x lack (finmap.get a.lacks.0 x) a.lacks.0) y ≡ gone_in entered (keys_in a y)
        lacks' = retold_gone (rows_in a) (keys_in a) a.sibs a.root a.represented.0 w.right a.represented.1 x k here edit lack (inner_part part (change_entry before j v)) entered longs others own a.lacks.0 a.lacks.1

        pub entry_given : Represented entered a.sibs.lists a.root × (HoldsOf entered (keys_in a) × (GoneOf entered (keys_in a) × Unit {0}))
        entry_given = ((with_entry before x part j v a.represented.0, spelt), ((a.holds.0, holds'), ((change_gone_of x lack (finmap.get a.lacks.0 x) a.lacks.0, lacks'), tt)))

        pub entry_fits : (s : Represented entered a.sibs.lists a.root) (marks : List ℕ) → marks ≡ set a.marks.homes (node_of_slot k) (home_of (mark (row_at entered k)))
            → Fits entered (keys_in a) a.sibs a.root s.0 a.uses.homes (cells_of a.cells.items) a.count a.next marks
        entry_fits s marks es = subst (λ z. Fits entered (keys_in a) a.sibs a.root z a.uses.homes (cells_of a.cells.items) a.count a.next marks) (sym (rendered_is entered a.sibs.lists a.root s (with_entry before x part j v a.represented.0) spelt))
            (record {
              right = retold_right (rows_in a) (keys_in a) a.sibs a.root a.represented.0 w.right a.represented.1 x k here edit lack (inner_part part (change_entry before j v)) entered longs others own;
              few = w.few;
              index = retold_index (rows_in a) (keys_in a) a.sibs a.root a.represented.0 w.right a.represented.1 x k here edit lack (inner_part part (change_entry before j v)) entered longs others own a.uses.homes (cells_of a.cells.items) w.index;
              distinct = each_distinct (at x edit) (same_at x edit (inner_part part (change_entry before j v))) a.represented.0 w.distinct;
              counted = w.counted ∙ retold_counted (rows_in a) (keys_in a) a.sibs a.root a.represented.0 w.right a.represented.1 x k here edit lack (inner_part part (change_entry before j v)) entered longs others own;
              below = retold_below (rows_in a) (keys_in a) a.sibs a.root a.represented.0 w.right a.represented.1 x k here edit lack (inner_part part (change_entry before j v)) entered longs others own a.next w.below;
              owned = retold_owned (rows_in a) (keys_in a) a.sibs a.root a.represented.0 w.right a.represented.1 x k here edit lack (inner_part part (change_entry before j v)) entered longs others own w.owned;
              marked = marked_edit (rows_in a) entered a.marks.homes marks k w.marked (w.marked.inside k (w.right.live_used k here.live)) others es;
              celled = celled_edit (rows_in a) entered (cells_of a.cells.items) k w.celled others (ap (λ z. z.used) own) (ap (λ z. z.head.results) own ∙ (inner_part part (change_entry before j v)).results (row_at (rows_in a) k).head) (ap (λ z. z.shapes) own) (ap (λ z. z.values) own);
            })

        pub entry_done : (s : Represented entered a.sibs.lists a.root) (h : HoldsOf entered (keys_in a)) (g : GoneOf entered (keys_in a))
            → ◌≡◌ {A = Stored} (record { module_of = record { tree = s.0; next = a.next }; held = h.0; gone = g.0 }) (after_entry before x part j v (stored a))
        entry_done s h g =
            let e1 = rendered_is entered a.sibs.lists a.root s (with_entry before x part j v a.represented.0) spelt in
            let e2 = map_is (λ y. held_in entered (keys_in a y)) h a.holds.0 holds' in
            let e3 = map_is (λ y. gone_in entered (keys_in a y)) g (change_gone_of x lack (finmap.get a.lacks.0 x) a.lacks.0) lacks' in
            λ i. record { module_of = record { tree = e1 i; next = a.next }; held = e2 i; gone = e3 i }

      at_key : keys_in a x ≡ Some k
      at_key = ap (keys_in a) (sym here.id) ∙ w.right.keyed k (w.right.live_used k here.live)

      -- the precondition of the undo, for the row
      pub revert_sorted : every (dictionaries_rise before) a.represented.0 ≡ true → rises before (part_of part (row_at (rows_in a) k).head) ≡ true
      revert_sorted e =
          let o = found_op (rows_in a) (keys_in a) a.sibs a.root a.represented.0 w.right a.represented.1 x k here in
          ap (λ h. rises before (part_of part h)) (same_head (rows_in a) a.sibs.lists k o.0 o.1.1)
          ∙ part_rises before part o.0 (every_found (dictionaries_rise before) x a.represented.0 o.0 e o.1.0)

      pub revert_slot : has_slot x part j (stored a) ≡ true → is_slot j (slots_in part (row_at (rows_in a) k)) ≡ true
      revert_slot e = slot_is (Some k) at_key ∙ e

      pub revert_there : has_entry x part j (stored a) ≡ true → has_key j (part_of part (row_at (rows_in a) k).head) ≡ true
      revert_there e = sym (entry_is (Some k) at_key) ∙ e

      -- the rows are unchanged
      module _ (rewritten : List Row) (same_rows : rewritten ≡ rows_in a) where
        pub same_given : Represented rewritten a.sibs.lists a.root × (HoldsOf rewritten (keys_in a) × (GoneOf rewritten (keys_in a) × Unit {0}))
        same_given = subst (λ z. Represented z a.sibs.lists a.root × (HoldsOf z (keys_in a) × (GoneOf z (keys_in a) × Unit {0}))) (sym same_rows) (a.represented, (a.holds, (a.lacks, tt)))

        same_spelt : SpellsOp rewritten a.sibs.lists a.root a.represented.0
        same_spelt = subst (λ z. SpellsOp z a.sibs.lists a.root a.represented.0) (sym same_rows) a.represented.1

        pub same_fits : (s : Represented rewritten a.sibs.lists a.root) → Fits rewritten (keys_in a) a.sibs a.root s.0 a.uses.homes (cells_of a.cells.items) a.count a.next a.marks.homes
        same_fits s = subst (λ z. Fits rewritten (keys_in a) a.sibs a.root z a.uses.homes (cells_of a.cells.items) a.count a.next a.marks.homes) (sym (rendered_is rewritten a.sibs.lists a.root s a.represented.0 same_spelt))
            (subst (λ z. Fits z (keys_in a) a.sibs a.root a.represented.0 a.uses.homes (cells_of a.cells.items) a.count a.next a.marks.homes) (sym same_rows) w)

        pub same_done : (s : Represented rewritten a.sibs.lists a.root) (h : HoldsOf rewritten (keys_in a)) (g : GoneOf rewritten (keys_in a))
            → ◌≡◌ {A = Stored} (record { module_of = record { tree = s.0; next = a.next }; held = h.0; gone = g.0 }) (stored a)
        same_done s h g =
            let e1 = rendered_is rewritten a.sibs.lists a.root s a.represented.0 same_spelt in
            let e2 = map_is (λ y. held_in rewritten (keys_in a y)) h a.holds.0 (λ y. a.holds.1 y ∙ ap (λ z. held_in z (keys_in a y)) (sym same_rows)) in
            let e3 = map_is (λ y. gone_in rewritten (keys_in a y)) g a.lacks.0 (λ y. a.lacks.1 y ∙ ap (λ z. gone_in z (keys_in a y)) (sym same_rows)) in
            λ i. record { module_of = record { tree = e1 i; next = a.next }; held = e2 i; gone = e3 i }
