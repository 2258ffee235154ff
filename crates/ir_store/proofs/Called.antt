-- Taking out and writing an operand, in the form of the calls' contracts.
use Rattle.std.proofs.Common.{◌≡◌, ℕ, ◌<◌, List, map, set, get_or, sym, ap, ◌∙◌, subst, length, false, Option, Some, None, arith}
use Rattle.std.specs.FinMap as finmap
use Rattle.ir_store_reads.specs.Lists.{Lists, free, without as drop_node, IsItem}
use Rattle.ir_store_reads.specs.trees.Tree.{Op, Head, op, head}
use Rattle.ir_store_reads.specs.trees.Ids.{find}
use Rattle.ir_store_reads.specs.trees.Places.{without}
use Rattle.ir_store.specs.declared.store.Store.TheInside.{Inside}
use Rattle.ir_store_reads.specs.Stored.{Stored}
use Rattle.ir_store.specs.Calls.{after_take, hold}
use Rattle.ir_store_reads.specs.Rows.{Row, row_at, held_in, gone_in}
use Rattle.ir_store_reads.specs.Spells.{SpellsOp, Represented, Represented-prop, rendered_is}
use Rattle.ir_store.specs.Holds.{HoldsOf, HoldsOf-prop, GoneOf, GoneOf-prop, map_is}
use Rattle.ir_store_reads.specs.Right.{Right}
use Rattle.ir_store_reads.proofs.SlotLaws.{found_op, node_known, used_inside}
use Rattle.std.specs.Prelude.{option_and_then, option_map, slice_get}
use Rattle.ir_store_reads.specs.Nodes.{node_of}
use Rattle.ir_store_reads.specs.Stored.{known}
use Rattle.ir_store_reads.specs.Rows.{node_row, row_with_operand, live_slot}
use Rattle.ir_store_reads.specs.trees.declared.value.Value.{Value}
use Rattle.ir_store_reads.specs.trees.Edits.{with_operand}
use Rattle.ir_store.specs.Calls.{after_operand}
use Rattle.ir_store_reads.specs.tree_laws.Changes.{operand_at}
use Rattle.ir_store_reads.proofs.SlotLaws.{Found, found}
use Rattle.ir_store.proofs.Writing.{write_spells, write_right, write_holds, write_gone}
use Rattle.ir_store.proofs.Taking.{IsLeaf, cut_spells, cut_right, cut_holds, cut_gone}
use Rattle.ir_store.proofs.OneRow.{put_long, put_own, put_other}

abbrev pub rows_in : Inside → List Row
rows_in a = a.slots

abbrev pub keys_in : Inside → ℕ → Option ℕ
keys_in a = finmap.get a.keys

abbrev pub IsRight : Inside → Type 0
IsRight a = Right (rows_in a) (keys_in a) a.sibs a.root a.represented.0

abbrev pub stored : Inside → Stored
stored a = record { module_of = record { tree = a.represented.0; next = a.next }; held = a.holds.0; gone = a.lacks.0 }

-- the slots of a store represent one tree, and one set of held operations
pub same_inside : (a : Inside) (x : Represented (rows_in a) a.sibs.lists a.root) (y : HoldsOf (rows_in a) (keys_in a)) (z : GoneOf (rows_in a) (keys_in a)) → record a { represented = x; holds = y; lacks = z } ≡ a
same_inside a x y z = λ i. record a {
  represented = Represented-prop (rows_in a) a.sibs.lists a.root x a.represented i;
  holds = HoldsOf-prop (rows_in a) (keys_in a) y a.holds i;
  lacks = GoneOf-prop (rows_in a) (keys_in a) z a.lacks i;
}

-- an operation is taken out
module _ (a : Inside) (r : IsRight a) (x k : ℕ) (leaf : IsLeaf (rows_in a) a.sibs.lists a.root x k) (slots' : List Row) (er : slots' ≡ set (rows_in a) k (record (row_at (rows_in a) k) { live = false }))
    (sibs' : Lists) (el : sibs'.lists ≡ map (drop_node k) a.sibs.lists) (eh : sibs'.homes ≡ set a.sibs.homes k free) where
  long' : length slots' ≡ length (rows_in a)
  long' = put_long (rows_in a) slots' k (record (row_at (rows_in a) k) { live = false }) er

  others : (q : ℕ) → (q ≡ k → ⊥) → row_at slots' q ≡ row_at (rows_in a) q
  others = put_other (rows_in a) slots' k (record (row_at (rows_in a) k) { live = false }) er

  gone_row : row_at slots' k ≡ record (row_at (rows_in a) k) { live = false }
  gone_row = put_own (rows_in a) slots' k (record (row_at (rows_in a) k) { live = false }) er leaf.found.inside

  pub cut_item : IsItem a.sibs.homes k
  cut_item = (r.items k leaf.found.live leaf.inner).item

  spells : SpellsOp slots' sibs'.lists a.root (without x a.represented.0)
  spells = cut_spells (rows_in a) (keys_in a) a.sibs a.root a.represented.0 r a.represented.1 x k leaf slots' long' others gone_row sibs' el eh

  pub cut_tree : (w : Represented slots' sibs'.lists a.root) → w.0 ≡ without x a.represented.0
  cut_tree w = rendered_is slots' sibs'.lists a.root w (without x a.represented.0) spells

  pub right_after : (w : Represented slots' sibs'.lists a.root) → Right slots' (keys_in a) sibs' a.root w.0
  right_after w = subst (Right slots' (keys_in a) sibs' a.root) (sym (rendered_is slots' sibs'.lists a.root w (without x a.represented.0) spells))
      (cut_right (rows_in a) (keys_in a) a.sibs a.root a.represented.0 r a.represented.1 x k leaf slots' long' others gone_row sibs' el eh)

  taken : (o : Op) × ((find x a.represented.0 ≡ Some o) × SpellsOp (rows_in a) a.sibs.lists k o)
  taken = found_op (rows_in a) (keys_in a) a.sibs a.root a.represented.0 r a.represented.1 x k leaf.found

  holds : (y : ℕ) → finmap.get (finmap.insert a.holds.0 x taken.0) y ≡ held_in slots' (keys_in a y)
  holds = cut_holds (rows_in a) (keys_in a) a.sibs a.root a.represented.0 r a.represented.1 x k leaf slots' long' others gone_row sibs' el eh a.holds.0 a.holds.1 taken.0 taken.1.1

  lacks : (y : ℕ) → finmap.get a.lacks.0 y ≡ gone_in slots' (keys_in a y)
  lacks y = a.lacks.1 y ∙ cut_gone (rows_in a) (keys_in a) a.sibs a.root a.represented.0 r a.represented.1 x k leaf slots' long' others gone_row sibs' el eh y

  -- the ghost fields of the store after the call
  pub cut_given : Represented slots' sibs'.lists a.root × (HoldsOf slots' (keys_in a) × (GoneOf slots' (keys_in a) × Unit {0}))
  cut_given = ((without x a.represented.0, spells), ((finmap.insert a.holds.0 x taken.0, holds), ((a.lacks.0, lacks), tt)))

  pub cut_done : (w : Represented slots' sibs'.lists a.root) (h : HoldsOf slots' (keys_in a)) (g : GoneOf slots' (keys_in a))
      → ◌≡◌ {A = Stored} (record { module_of = record { tree = w.0; next = a.next }; held = h.0; gone = g.0 }) (after_take x (stored a))
  cut_done w h g =
      let e1 = rendered_is slots' sibs'.lists a.root w (without x a.represented.0) spells in
      let e2 = map_is (λ y. held_in slots' (keys_in a y)) h (finmap.insert a.holds.0 x taken.0) holds ∙ ap (λ z. hold x z a.holds.0) (sym taken.1.0) in
      let e3 = map_is (λ y. gone_in slots' (keys_in a y)) g a.lacks.0 lacks in
      λ i. record { module_of = record { tree = e1 i; next = a.next }; held = e2 i; gone = e3 i }

-- an operation is read
module _ (a : Inside) (r : IsRight a) (x : ℕ) where
  pub node_none : None ≡ keys_in a x → None ≡ option_map node_of (known x (stored a))
  node_none e = node_known (rows_in a) (keys_in a) a.sibs a.root a.represented.0 r a.represented.1 x (finmap.get a.holds.0 x) (a.holds.1 x) None (sym e)

  module _ (k : ℕ) (e : Some k ≡ keys_in a x) where
    pub node_some : Some (node_row (row_at (rows_in a) k)) ≡ option_map node_of (known x (stored a))
    node_some = node_known (rows_in a) (keys_in a) a.sibs a.root a.represented.0 r a.represented.1 x (finmap.get a.holds.0 x) (a.holds.1 x) (Some k) (sym e)

-- an operand is written
module _ (a : Inside) (r : IsRight a) (x k j : ℕ) (v : Value) (e : Some k ≡ live_slot (rows_in a) (keys_in a) x) where
  here : Found (rows_in a) x k
  here = found (rows_in a) (keys_in a) a.sibs a.root a.represented.0 r a.represented.1 x k (sym e)

  pub write_inside : k < length (rows_in a)
  write_inside = here.inside

  -- the previous operand
  head_of : (o : Op) → SpellsOp (rows_in a) a.sibs.lists k o → (row_at (rows_in a) k).head ≡ head o
  head_of (op h rs) s = s.1.0

  pub operand_was : (was : Option Value) → slice_get (row_at (rows_in a) k).head.operands j ≡ was → operand_at x j a.represented.0 ≡ was
  operand_was was e' =
      let o = found_op (rows_in a) (keys_in a) a.sibs a.root a.represented.0 r a.represented.1 x k here in
      ap (option_and_then (λ (o : Op). slice_get (head o).operands j)) o.1.0
      ∙ ap (λ (h : Head). slice_get h.operands j) (sym (head_of o.0 o.1.1))
      ∙ e'

  module _ (written : List Row) (er : written ≡ set (rows_in a) k (row_with_operand j v (row_at (rows_in a) k))) where
    longs : length written ≡ length (rows_in a)
    longs = put_long (rows_in a) written k (row_with_operand j v (row_at (rows_in a) k)) er

    others' : (q : ℕ) → (q ≡ k → ⊥) → row_at written q ≡ row_at (rows_in a) q
    others' = put_other (rows_in a) written k (row_with_operand j v (row_at (rows_in a) k)) er

    new_row : row_at written k ≡ row_with_operand j v (row_at (rows_in a) k)
    new_row = put_own (rows_in a) written k (row_with_operand j v (row_at (rows_in a) k)) er write_inside

    spelt : SpellsOp written a.sibs.lists a.root (with_operand x j v a.represented.0)
    spelt = write_spells (rows_in a) (keys_in a) a.sibs a.root a.represented.0 r a.represented.1 x k j v here written longs others' new_row

    pub write_tree : (w : Represented written a.sibs.lists a.root) → w.0 ≡ with_operand x j v a.represented.0
    write_tree w = rendered_is written a.sibs.lists a.root w (with_operand x j v a.represented.0) spelt

    pub write_fits : (w : Represented written a.sibs.lists a.root) → Right written (keys_in a) a.sibs a.root w.0
    write_fits w = subst (Right written (keys_in a) a.sibs a.root) (sym (rendered_is written a.sibs.lists a.root w (with_operand x j v a.represented.0) spelt))
        (write_right (rows_in a) (keys_in a) a.sibs a.root a.represented.0 r a.represented.1 x k j v here written longs others' new_row)

    holds' : (y : ℕ) → finmap.get a.holds.0 y ≡ held_in written (keys_in a y)
    holds' y = a.holds.1 y ∙ write_holds (rows_in a) (keys_in a) a.sibs a.root a.represented.0 r a.represented.1 x k j v here written longs others' new_row y

    lacks' : (y : ℕ) → finmap.get a.lacks.0 y ≡ gone_in written (keys_in a y)
    lacks' y = a.lacks.1 y ∙ write_gone (rows_in a) (keys_in a) a.sibs a.root a.represented.0 r a.represented.1 x k j v here written longs others' new_row y

    pub write_given : Represented written a.sibs.lists a.root × (HoldsOf written (keys_in a) × (GoneOf written (keys_in a) × Unit {0}))
    write_given = ((with_operand x j v a.represented.0, spelt), ((a.holds.0, holds'), ((a.lacks.0, lacks'), tt)))

    pub write_done : (w : Represented written a.sibs.lists a.root) (h : HoldsOf written (keys_in a)) (g : GoneOf written (keys_in a))
        → ◌≡◌ {A = Stored} (record { module_of = record { tree = w.0; next = a.next }; held = h.0; gone = g.0 }) (after_operand x j v (stored a))
    write_done w h g =
        let e1 = rendered_is written a.sibs.lists a.root w (with_operand x j v a.represented.0) spelt in
        let e2 = map_is (λ y. held_in written (keys_in a y)) h a.holds.0 holds' in
        let e3 = map_is (λ y. gone_in written (keys_in a y)) g a.lacks.0 lacks' in
        λ i. record { module_of = record { tree = e1 i; next = a.next }; held = e2 i; gone = e3 i }
