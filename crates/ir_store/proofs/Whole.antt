-- The invariants of slots and use lists together, in the form of the calls' contracts.
use Rattle.std.proofs.Common.{◌≡◌, eqb, ℕ, zero, suc, ◌+◌, ◌-◌, ◌<◌, ◌≤◌, List, [], ◌∷◌, map, set, refl, sym, ap, ◌∙◌, subst, length, Bool, true, false, Option, Some, None, arith}
use Rattle.std.specs.Prelude.{Result, Ok, Err}
use Rattle.std.proofs.lemmas.List.{length-set}
use Rattle.ir_store_reads.specs.Lists.{Lists, Laws, free, without as drop_node}
use Rattle.ir_store_reads.specs.types.declared.refusal.Refusal.{Refusal}
use Rattle.ir_store_reads.specs.trees.declared.value.Value.{Value}
use Rattle.ir_store.specs.declared.store.Store.TheInside.{Inside}
use Rattle.ir_store_reads.specs.Rows.{Row, row_at, row_with_operand, live_slot}
use Rattle.ir_store_reads.specs.Right.{Live, Used}
use Rattle.ir_store_reads.specs.Spells.{Represented, Represented-prop}
use Rattle.ir_store_reads.specs.Plans.{leaf_in}
use Rattle.ir_store_reads.specs.Reasoned.{idle_in}
use Rattle.ir_store_reads.specs.Index.{Index, Fits, HasIdsBelow, lives, cells_of, HasHeads, CanFree, freed, led_to, all_led, value_head}
use Rattle.ir_store_reads.proofs.Celled.{celled_same, celled_edit}
use Rattle.ir_store_reads.proofs.SlotLaws.{Found, found}
use Rattle.ir_store.proofs.Taking.{IsLeaf}
use Rattle.ir_store.proofs.Unused.{TakePlanned, take_planned}
use Rattle.ir_store.proofs.Used.{has_heads, can_free, take_index}
use Rattle.std.proofs.Common.{not, ◌&&◌, ⊎_elim}
use Rattle.std.specs.Prelude.{is_some, nat_lt, if◌then◌else◌}
use Rattle.std.specs.FinMap as finmap
use Rattle.std.proofs.lemmas.Bool.{cases_eq, cases_Bool, false≢true}
use Rattle.ir_store_reads.specs.Lists.{IsItem, IsHead, IsFree}
use Rattle.ir_store_reads.specs.types.declared.refusal.Refusal.TheVariants.{NoSuchIndex, NoSuchValue}
use Rattle.ir_store_reads.specs.trees.declared.place.Place.{Place}
use Rattle.ir_store_reads.specs.trees.Tree.{Head, Op, head}
use Rattle.ir_store_reads.specs.trees.Edits.{at as at_op, put_operand}
use Rattle.ir_store_reads.specs.trees.Ids.{HasDistinctIds, op_count, has_id}
use Rattle.ir_store_reads.proofs.of_trees.Left.{left_distinct}
use Rattle.ir_store_reads.specs.trees.Places.{put, without}
use Rattle.ir_store_reads.specs.trees.Frames.{owner_of}
use Rattle.ir_store.proofs.Tally.{lower_below, count_within, cut_counted, cut_below, cut_owned, joined_counted, join_below, join_owned, write_below, write_owned, value_owner}
use Rattle.ir_store.proofs.Distinct.{each_distinct, each_ids}
use Rattle.ir_store_reads.specs.trees.Ids.{find}
use Rattle.ir_store_reads.specs.tree_laws.Values.{has_value}
use Rattle.ir_store_reads.specs.Stored.{Stored}
use Rattle.ir_store.specs.Calls.{CanRestore, after_restore, raised}
use Rattle.ir_store_reads.specs.tree_laws.Reasons.{operand_reason, unless, unused}
use Rattle.ir_store_reads.specs.Reasoned.{with_head, rewire_reason}
use Rattle.ir_store_reads.specs.Plans.{operand_in}
use Rattle.ir_store_reads.specs.Rows.{held_slot, held_in, if_held, bare}
use Rattle.ir_store.specs.Holds.{HoldsOf, GoneOf}
use Rattle.ir_store_reads.specs.Points.{point_in, joined}
use Rattle.ir_store_reads.specs.Index.{CanLead, operand_at, use_at}
use Rattle.ir_store_reads.proofs.SlotLaws.{operand_found}
use Rattle.ir_store.proofs.Used.{can_lead, join_index, use_item, write_index}
use Rattle.ir_store.proofs.Valued.{value_is, place_is}
use Rattle.ir_store_reads.proofs.Heads.{live_head}
use Rattle.ir_store.proofs.Spotted.{joint_distinct, joint_tree, joint_out, held_found, joint_right, joint_done, joint_inside, joint_before}
use Rattle.ir_store_reads.specs.Points.{IsNodeIn}
use Rattle.std.specs.Prelude.{IfSome}
use Rattle.std.proofs.lemmas.List.{get_or-set_same, get_or-set_other}
use Rattle.ir_store_reads.specs.Lists.{home_at}
use Rattle.ir_store.proofs.Cut.{not_item}
use Rattle.ir_store.proofs.Joining.{FoundHeld}
use Rattle.ir_store.proofs.Called.{rows_in, keys_in, stored, cut_tree, write_tree, right_after, write_fits, write_inside}
use Rattle.ir_store.proofs.OneRow.{put_own, put_other}
use Rattle.ir_store_reads.specs.Marks.{mark, home_of, node_of_slot}
use Rattle.ir_store_reads.proofs.Marking.{marked_edit, marked_same}
use Rattle.ir_store_reads.proofs.of_trees.of_types.WordNumbers.{all_at}
use Rattle.ir_store_reads.proofs.of_tree_laws.Reasoned.{some_there}

abbrev pub Whole : Inside → Type 0
Whole a = Fits (rows_in a) (keys_in a) a.sibs a.root a.represented.0 a.uses.homes (cells_of a.cells.items) a.count a.next a.marks.homes

pub freed_long : (b n : ℕ) (homes : List ℕ) → length (freed b n homes) ≡ length homes
freed_long b zero homes = refl
freed_long b (suc n) homes = freed_long (b + 1) n (set homes b free) ∙ length-set homes b free

pub led_long : (head : Value → Option ℕ) (b : ℕ) (vs : List Value) (homes : List ℕ) → length (all_led head b vs homes) ≡ length homes
led_long head b [] homes = refl
led_long head b (v ∷ vs) homes = led_long head (b + 1) vs (led_to b (head v) homes) ∙ one (head v)
  where
    one : (o : Option ℕ) → length (led_to b o homes) ≡ length homes
    one None = refl
    one (Some h) = length-set homes b h

module _ (a : Inside) (w : Whole a) where
  pub find_values : (q : ℕ) → Live (rows_in a) q → HasHeads (rows_in a) a.uses.homes q
  find_values q l = has_heads (rows_in a) (keys_in a) a.uses.homes (cells_of a.cells.items) w.few (lives (rows_in a)) w.index q (w.right.keyed q (w.right.live_used q l))

  module _ (laws : Laws a.uses.lists a.uses.homes) (x : ℕ) where
    abbrev pub Plan : Result ℕ Refusal → Type 0
    Plan = TakePlanned (rows_in a) (keys_in a) a.sibs a.root a.represented.0 w.right a.represented.1 a.uses (cells_of a.cells.items) laws w.index x

    pub plan : (res : Result ℕ Refusal) → res ≡ idle_in (rows_in a) a.uses.lists (leaf_in (rows_in a) a.sibs.lists a.root (live_slot (rows_in a) (keys_in a) x)) → Plan res
    plan res e = take_planned (rows_in a) (keys_in a) a.sibs a.root a.represented.0 w.right a.represented.1 a.uses (cells_of a.cells.items) laws w.index x res _ refl e

  module _ (x k : ℕ) (leaf : IsLeaf (rows_in a) a.sibs.lists a.root x k) (run : ℕ × ℕ) (er : run ≡ ((row_at (rows_in a) k).uses, length (row_at (rows_in a) k).head.operands)) where
    pub free_run : CanFree run.0 run.1 a.uses.homes
    free_run = subst (λ p. CanFree p.0 p.1 a.uses.homes) (sym er)
        (can_free (rows_in a) (keys_in a) a.uses.homes (cells_of a.cells.items) w.few w.index k (w.right.live_used k leaf.found.live) leaf.found.live)

    module _ (slots' : List Row) (ew : slots' ≡ set (rows_in a) k (record (row_at (rows_in a) k) { live = false })) (sibs' : Lists) (el : sibs'.lists ≡ map (drop_node k) a.sibs.lists) (eh : sibs'.homes ≡ set a.sibs.homes k free)
        (homes' : List ℕ) (eu : homes' ≡ freed run.0 run.1 a.uses.homes) where
      others : (q : ℕ) → (q ≡ k → ⊥) → row_at slots' q ≡ row_at (rows_in a) q
      others = put_other (rows_in a) slots' k (record (row_at (rows_in a) k) { live = false }) ew

      own : row_at slots' k ≡ record (row_at (rows_in a) k) { live = false }
      own = put_own (rows_in a) slots' k (record (row_at (rows_in a) k) { live = false }) ew leaf.found.inside

      pub take_some : 1 ≤ a.count
      take_some = omega (arith, w.counted, cut_counted (rows_in a) (keys_in a) a.sibs a.root a.represented.0 w.right a.represented.1 x k leaf w.distinct)

      pub take_fits : unused x a.represented.0 ≡ true → (s : Represented slots' sibs'.lists a.root) (marks : List ℕ) → marks ≡ set a.marks.homes (node_of_slot k) (home_of (mark (row_at slots' k))) → Fits slots' (keys_in a) sibs' a.root s.0 homes' (cells_of a.cells.items) (a.count - 1) a.next marks
      take_fits spared s marks em = record {
        right = right_after a w.right x k leaf slots' ew sibs' el eh s;
        few = omega (arith, w.few, ap length eu, freed_long run.0 run.1 a.uses.homes);
        index = subst (λ z. Index slots' (keys_in a) z (cells_of a.cells.items) (lives slots')) (sym (eu ∙ ap (λ p. freed p.0 p.1 a.uses.homes) er))
            (take_index (rows_in a) (keys_in a) a.uses.homes (cells_of a.cells.items) w.few w.index k (w.right.live_used k leaf.found.live) slots' others false own refl leaf.found.live);
        distinct = subst HasDistinctIds (sym (cut_tree a w.right x k leaf slots' ew sibs' el eh s)) (left_distinct x a.represented.0 w.distinct);
        counted =
            let c = cut_counted (rows_in a) (keys_in a) a.sibs a.root a.represented.0 w.right a.represented.1 x k leaf w.distinct in
            let e : a.count - 1 ≡ op_count (without x a.represented.0) = omega (arith, w.counted, c) in
            e ∙ ap op_count (sym (cut_tree a w.right x k leaf slots' ew sibs' el eh s));
        below = cut_below (rows_in a) (keys_in a) a.sibs a.root a.represented.0 w.right a.represented.1 x k leaf slots' others own a.next w.below;
        owned = cut_owned (rows_in a) (keys_in a) a.sibs a.root a.represented.0 w.right a.represented.1 x k leaf slots' others own spared w.owned;
        marked = marked_edit (rows_in a) slots' a.marks.homes marks k w.marked (w.marked.inside k (w.right.live_used k leaf.found.live)) others em;
        celled = celled_edit (rows_in a) slots' (cells_of a.cells.items) k w.celled others (ap (λ z. z.used) own) (ap (λ z. z.head.results) own) (ap (λ z. z.shapes) own) (ap (λ z. z.values) own);
      }

-- the count can rise by one
pub count_few : (a : Inside) → Whole a → a.count + 1 < 18446744073709551616
count_few a w =
    let most = count_within (rows_in a) (keys_in a) a.sibs a.root a.represented.0 w.right a.represented.1 w.distinct in
    omega (arith, w.counted, most, w.right.long, w.right.few)

-- the newest id becomes free again
module _ (a : Inside) (w : Whole a) (x : ℕ) (newest : a.next ≡ x + 1) (out : has_id x a.represented.0 ≡ false) where
  pub lower_fits : (next : ℕ) → next ≡ x → (s : Represented (rows_in a) a.sibs.lists a.root) → Fits (rows_in a) (keys_in a) a.sibs a.root s.0 a.uses.homes (cells_of a.cells.items) a.count next a.marks.homes
  lower_fits next e s = subst (λ (z : Represented (rows_in a) a.sibs.lists a.root). Fits (rows_in a) (keys_in a) a.sibs a.root z.0 a.uses.homes (cells_of a.cells.items) a.count next a.marks.homes)
      (Represented-prop (rows_in a) a.sibs.lists a.root a.represented s)
      (record {
        right = w.right;
        few = w.few;
        index = w.index;
        distinct = w.distinct;
        counted = w.counted;
        below = subst (λ z. HasIdsBelow z (rows_in a)) (sym e) (lower_below (rows_in a) (keys_in a) a.sibs a.root a.represented.0 w.right a.represented.1 x a.next newest out w.below);
        owned = w.owned;
        marked = w.marked;
        celled = w.celled;
      })

-- an operation is inserted again
module _ (a : Inside) (w : Whole a) (laws : Laws a.sibs.lists a.sibs.homes) (x : ℕ) (place : Place) (fresh : Bool) (can : CanRestore x place fresh (stored a)) where
  held_there : is_some (held_slot (rows_in a) (keys_in a) x) ≡ true
  held_there = go (keys_in a x) refl (ap is_some (sym (a.holds.1 x)) ∙ can.held)
    where
      go : (o : Option ℕ) → keys_in a x ≡ o → is_some (held_in (rows_in a) o) ≡ true → is_some (if_held (rows_in a) o) ≡ true
      go None e f = absurd (false≢true f)
      go (Some q) e f = ⊎_elim
          (λ l. absurd (false≢true (sym (rw l refl) ∙ f)))
          (λ l. λ i. is_some {T = ℕ} (if (w.right.known x q e).used.used i && not (l i) then Some q else None))
          (cases_Bool (row_at (rows_in a) q).live)

  pub restore_found : (is_some (held_slot (rows_in a) (keys_in a) x) && is_some (point_in (rows_in a) (keys_in a) a.sibs.homes place)) ≡ false → ⊥
  restore_found e =
      let p : is_some (point_in (rows_in a) (keys_in a) a.sibs.homes place) ≡ true = place_is (rows_in a) (keys_in a) a.sibs a.root a.represented.0 w.right a.represented.1 laws place ∙ can.point in
      false≢true (sym e ∙ (λ i. held_there i && p i))

  module _ (k : ℕ) (ek : Some k ≡ held_slot (rows_in a) (keys_in a) x) where
    fk : FoundHeld (rows_in a) x k
    fk = held_found (rows_in a) (keys_in a) a.sibs a.root a.represented.0 w.right a.represented.1 x k ek

    held_is : finmap.get a.holds.0 x ≡ Some (bare (row_at (rows_in a) k))
    held_is = a.holds.1 x ∙ ap (held_in (rows_in a)) (ap (keys_in a) (sym fk.id) ∙ w.right.keyed k fk.used) ∙ rw fk.out refl

    owners_there : (i : ℕ) (v : Value) → operand_at (rows_in a) k i ≡ Some v → is_some (live_slot (rows_in a) (keys_in a) (owner_of v).0) ≡ true
    owners_there i v e =
        value_owner (rows_in a) (live_slot (rows_in a) (keys_in a)) v
        (value_is (rows_in a) (keys_in a) a.sibs a.root a.represented.0 w.right a.represented.1 v
        ∙ all_at (λ z. has_value z a.represented.0) (row_at (rows_in a) k).head.operands i v (can.values (bare (row_at (rows_in a) k)) held_is) e)

    heads_there : (i : ℕ) (v : Value) → operand_at (rows_in a) k i ≡ Some v → (h : ℕ) × (value_head (rows_in a) (keys_in a) v ≡ Some h)
    heads_there i v e =
        let p = all_at (λ z. has_value z a.represented.0) (row_at (rows_in a) k).head.operands i v (can.values (bare (row_at (rows_in a) k)) held_is) e in
        let y = some_there (value_head (rows_in a) (live_slot (rows_in a) (keys_in a)) v) (value_is (rows_in a) (keys_in a) a.sibs a.root a.represented.0 w.right a.represented.1 v ∙ p) in
        (y.0, live_head (rows_in a) (keys_in a) v y.0 y.1)

    pub restore_lead : CanLead (value_head (rows_in a) (keys_in a)) (row_at (rows_in a) k).uses (row_at (rows_in a) k).head.operands a.uses.homes
    restore_lead = can_lead (rows_in a) (keys_in a) a.uses.homes (cells_of a.cells.items) w.few w.index k fk.used fk.out heads_there

    pub restore_before : (h : ℕ) (at : Option ℕ) → Some (h, at) ≡ point_in (rows_in a) (keys_in a) a.sibs.homes place → IfSome at (λ t. IsNodeIn a.sibs.homes h t)
    restore_before h at es = go at refl
      where
        go : (o : Option ℕ) → at ≡ o → IfSome o (λ t. IsNodeIn a.sibs.homes h t)
        go None e = tt
        go (Some t) e = joint_before a w.right laws x k ek place h at es t e

    -- the next free id is above all ids that were given out
    raised_bound : (a.next ≤ raised fresh x a.next) × (x < raised fresh x a.next)
    raised_bound = go fresh refl
      where
        go : (b : Bool) → fresh ≡ b → (a.next ≤ raised b x a.next) × (x < raised b x a.next)
        go true e = let z = can.newest e in (omega (arith, z), omega arith)
        go false e = let z = can.below e in (omega arith, z)

    module _ (h : ℕ) (at : Option ℕ) (es : Some (h, at) ≡ point_in (rows_in a) (keys_in a) a.sibs.homes place) (rows2 : List Row) (er : rows2 ≡ set (rows_in a) k (record (row_at (rows_in a) k) { live = true }))
        (sibs' : Lists) (el : sibs'.lists ≡ joined k h at a.sibs.lists) (eh : sibs'.homes ≡ set a.sibs.homes k h)
        (homes' : List ℕ) (eu : homes' ≡ all_led (value_head (rows_in a) (keys_in a)) (row_at (rows_in a) k).uses (row_at (rows_in a) k).head.operands a.uses.homes) where
      others2 : (q : ℕ) → (q ≡ k → ⊥) → row_at rows2 q ≡ row_at (rows_in a) q
      others2 = put_other (rows_in a) rows2 k (record (row_at (rows_in a) k) { live = true }) er

      own2 : row_at rows2 k ≡ record (row_at (rows_in a) k) { live = true }
      own2 = put_own (rows_in a) rows2 k (record (row_at (rows_in a) k) { live = true }) er (joint_inside a w.right laws x k ek place h at es)

      pub restore_fits : (s : Represented rows2 sibs'.lists a.root) (next : ℕ) → next ≡ raised fresh x a.next → (marks : List ℕ) → marks ≡ set a.marks.homes (node_of_slot k) (home_of (mark (row_at rows2 k))) → Fits rows2 (keys_in a) sibs' a.root s.0 homes' (cells_of a.cells.items) (a.count + 1) next marks
      restore_fits s next en' marks em = record {
        right = joint_right a w.right laws x k ek place h at es rows2 er sibs' el eh s;
        few = omega (arith, w.few, ap length eu, led_long (value_head (rows_in a) (keys_in a)) (row_at (rows_in a) k).uses (row_at (rows_in a) k).head.operands a.uses.homes);
        index = subst (λ z. Index rows2 (keys_in a) z (cells_of a.cells.items) (lives rows2)) (sym eu)
            (join_index (rows_in a) (keys_in a) a.uses.homes (cells_of a.cells.items) w.few w.index k fk.used rows2 others2 true own2 refl fk.out heads_there);
        distinct = joint_distinct a w.right laws x k ek place h at es rows2 er sibs' el eh w.distinct s;
        counted =
            let c = joined_counted place (row_at (rows_in a) k) a.represented.0 w.distinct (joint_out a w.right laws x k ek place h at es) can.point in
            let e : a.count + 1 ≡ op_count (put place (bare (row_at (rows_in a) k)) a.represented.0) = omega (arith, w.counted, c) in
            e ∙ ap op_count (sym (joint_tree a w.right laws x k ek place h at es rows2 er sibs' el eh s));
        below =
            let b = raised_bound in
            join_below (rows_in a) (keys_in a) k rows2 others2 own2 a.next next (omega (arith, b.0, en')) (omega (arith, b.1, en', fk.id)) w.below;
        owned = join_owned (rows_in a) (keys_in a) k rows2 others2 own2 owners_there w.owned;
        marked = marked_edit (rows_in a) rows2 a.marks.homes marks k w.marked (w.marked.inside k fk.used) others2 em;
        celled = celled_edit (rows_in a) rows2 (cells_of a.cells.items) k w.celled others2 (ap (λ z. z.used) own2) (ap (λ z. z.head.results) own2) (ap (λ z. z.shapes) own2) (ap (λ z. z.values) own2);
      }

      pub restore_done : (s : Represented rows2 sibs'.lists a.root) (v : HoldsOf rows2 (keys_in a)) (g : GoneOf rows2 (keys_in a)) (next : ℕ) → next ≡ raised fresh x a.next
          → ◌≡◌ {A = Stored} (record { module_of = record { tree = s.0; next = next }; held = v.0; gone = g.0 }) (after_restore x place fresh (stored a))
      restore_done s v g next en' =
          let e = joint_done a w.right laws x k ek place h at es rows2 er sibs' el eh s v g in
          λ i. record { module_of = record { tree = (e i).module_of.tree; next = en' i }; held = (e i).held; gone = (e i).gone }

-- an edit of one operation keeps its id
same_at : (x : ℕ) (f : Head → Head) → ((g : Head) → (f g).id ≡ g.id) → (h : Head) → (at_op x f h).id ≡ h.id
same_at x f e h = go (eqb h.id x)
  where
    go : (b : Bool) → (if b then f h else h).id ≡ h.id
    go true = e h
    go false = refl

-- an operand is written
module _ (a : Inside) (w : Whole a) (x j : ℕ) (v : Value) where
  pub rewire_head : (h : ℕ) → value_head (rows_in a) (keys_in a) v ≡ Some h → IsHead a.uses.homes h
  rewire_head h e = w.index.heads v h e

  abbrev pub Rewired : Result (ℕ × ℕ) Refusal → Type 0
  Rewired (Ok p) = (Some p.0 ≡ live_slot (rows_in a) (keys_in a) x) × ((j < length (row_at (rows_in a) p.0).head.operands) × ((rewire_reason x j v a.represented.0 ≡ None) × (value_head (rows_in a) (keys_in a) v ≡ Some p.1)))
  Rewired (Err e) = rewire_reason x j v a.represented.0 ≡ Some e

  stays : (rest : Option Refusal) (o : Option Op) (e : Refusal) → operand_reason j None o ≡ Some e → operand_reason j rest o ≡ Some e
  stays rest None e f = f
  stays rest (Some o) e f = test (nat_lt j (length (head o).operands)) f
    where
      test : (b : Bool) → (if b then None else Some NoSuchIndex) ≡ Some e → (if b then rest else Some NoSuchIndex) ≡ Some e
      test true g = absurd cc
      test false g = g

  goes_on : (rest : Option Refusal) (o : Option Op) → operand_reason j None o ≡ None → operand_reason j rest o ≡ rest
  goes_on rest None f = absurd cc
  goes_on rest (Some o) f = test (nat_lt j (length (head o).operands)) f
    where
      test : (b : Bool) → (if b then None else Some NoSuchIndex) ≡ None → (if b then rest else Some NoSuchIndex) ≡ rest
      test true g = refl
      test false g = absurd cc

  pub rewired : (res : Result (ℕ × ℕ) Refusal) → res ≡ with_head (operand_in (rows_in a) j (live_slot (rows_in a) (keys_in a) x)) (value_head (rows_in a) (live_slot (rows_in a) (keys_in a)) v) → Rewired res
  rewired res e = subst Rewired (sym e)
      (go (operand_in (rows_in a) j (live_slot (rows_in a) (keys_in a) x)) refl (value_head (rows_in a) (live_slot (rows_in a) (keys_in a)) v) refl)
    where
      value_test : is_some (value_head (rows_in a) (live_slot (rows_in a) (keys_in a)) v) ≡ has_value v a.represented.0
      value_test = value_is (rows_in a) (keys_in a) a.sibs a.root a.represented.0 w.right a.represented.1 v

      go : (o : Result ℕ Refusal) → o ≡ operand_in (rows_in a) j (live_slot (rows_in a) (keys_in a) x) → (h : Option ℕ) → value_head (rows_in a) (live_slot (rows_in a) (keys_in a)) v ≡ h → Rewired (with_head o h)
      go (Err e) f h g = stays (unless (has_value v a.represented.0) NoSuchValue None) (find x a.represented.0) e (operand_found (rows_in a) (keys_in a) a.sibs a.root a.represented.0 w.right a.represented.1 x j (Err e) f)
      go (Ok k) f None g =
          let p = operand_found (rows_in a) (keys_in a) a.sibs a.root a.represented.0 w.right a.represented.1 x j (Ok k) f in
          goes_on (unless (has_value v a.represented.0) NoSuchValue None) (find x a.represented.0) p.1.1 ∙ ap (λ b. unless b NoSuchValue None) (sym value_test ∙ ap is_some g)
      go (Ok k) f (Some h) g =
          let p = operand_found (rows_in a) (keys_in a) a.sibs a.root a.represented.0 w.right a.represented.1 x j (Ok k) f in
          (p.0, (p.1.0, (goes_on (unless (has_value v a.represented.0) NoSuchValue None) (find x a.represented.0) p.1.1 ∙ ap (λ b. unless b NoSuchValue None) (sym value_test ∙ ap is_some g), live_head (rows_in a) (keys_in a) v h g)))

  module _ (k h : ℕ) (ek : Some k ≡ live_slot (rows_in a) (keys_in a) x) (inside : j < length (row_at (rows_in a) k).head.operands) (eh : value_head (rows_in a) (keys_in a) v ≡ Some h) where
    fd : Found (rows_in a) x k
    fd = found (rows_in a) (keys_in a) a.sibs a.root a.represented.0 w.right a.represented.1 x k (sym ek)

    uk : Used (rows_in a) k
    uk = w.right.live_used k fd.live

    module _ (rows3 : List Row) (er : rows3 ≡ set (rows_in a) k (row_with_operand j v (row_at (rows_in a) k))) where
      others3 : (q : ℕ) → (q ≡ k → ⊥) → row_at rows3 q ≡ row_at (rows_in a) q
      others3 = put_other (rows_in a) rows3 k (row_with_operand j v (row_at (rows_in a) k)) er

      own3 : row_at rows3 k ≡ row_with_operand j v (row_at (rows_in a) k)
      own3 = put_own (rows_in a) rows3 k (row_with_operand j v (row_at (rows_in a) k)) er (write_inside a w.right x k j v ek)

      kept3 : {A : Type 0} (f : Row → A) → f (row_with_operand j v (row_at (rows_in a) k)) ≡ f (row_at (rows_in a) k) → (q : ℕ) → f (row_at rows3 q) ≡ f (row_at (rows_in a) q)
      kept3 f e q = ⊎_elim (λ z. ap (λ c. f (row_at rows3 c)) z ∙ ap f own3 ∙ e ∙ ap (λ c. f (row_at (rows_in a) c)) (sym z)) (λ z. ap f (others3 q z)) (cases_eq q k)

      value_there : rewire_reason x j v a.represented.0 ≡ None → has_value v a.represented.0 ≡ true
      value_there e = go (find x a.represented.0) e
        where
          last : (b : Bool) → unless b NoSuchValue None ≡ None → b ≡ true
          last true f = refl
          last false f = absurd cc

          go : (o : Option Op) → operand_reason j (unless (has_value v a.represented.0) NoSuchValue None) o ≡ None → has_value v a.represented.0 ≡ true
          go None f = absurd cc
          go (Some o) f = test (nat_lt j (length (head o).operands)) f
            where
              test : (b : Bool) → (if b then unless (has_value v a.represented.0) NoSuchValue None else Some NoSuchIndex) ≡ None → has_value v a.represented.0 ≡ true
              test true g = last (has_value v a.represented.0) g
              test false g = absurd cc

      pub rewire_fits : rewire_reason x j v a.represented.0 ≡ None → (s : Represented rows3 a.sibs.lists a.root) (homes1 homes2 : List ℕ) → homes1 ≡ set a.uses.homes (use_at (rows_in a) k j) free → homes2 ≡ set homes1 (use_at (rows_in a) k j) h
          → Fits rows3 (keys_in a) a.sibs a.root s.0 homes2 (cells_of a.cells.items) a.count a.next a.marks.homes
      rewire_fits why s homes1 homes2 e1 e2 = record {
        right = write_fits a w.right x k j v ek rows3 er s;
        few = omega (arith, w.few, ap length e2, ap length e1, length-set homes1 (use_at (rows_in a) k j) h, length-set a.uses.homes (use_at (rows_in a) k j) free);
        index = subst (λ z. Index rows3 (keys_in a) z (cells_of a.cells.items) (lives rows3)) (sym (e2 ∙ ap (λ z. set z (use_at (rows_in a) k j) h) e1))
            (write_index (rows_in a) (keys_in a) a.uses.homes (cells_of a.cells.items) w.few w.index k j h v fd.live uk inside eh rows3 others3 own3);
        distinct = subst HasDistinctIds (sym (write_tree a w.right x k j v ek rows3 er s)) (each_distinct (at_op x (put_operand j v)) (same_at x (put_operand j v) (λ g. refl)) a.represented.0 w.distinct);
        counted = w.counted ∙ ap length (sym (each_ids (at_op x (put_operand j v)) (same_at x (put_operand j v) (λ g. refl)) a.represented.0)) ∙ ap op_count (sym (write_tree a w.right x k j v ek rows3 er s));
        below = write_below (rows_in a) (keys_in a) k j v rows3 others3 own3 a.next w.below;
        owned = write_owned (rows_in a) (keys_in a) k j v rows3 others3 own3
            (value_owner (rows_in a) (live_slot (rows_in a) (keys_in a)) v (value_is (rows_in a) (keys_in a) a.sibs a.root a.represented.0 w.right a.represented.1 v ∙ value_there why)) w.owned;
        marked = marked_same (rows_in a) rows3 a.marks.homes w.marked (kept3 mark refl) (kept3 (λ z. z.used) refl);
        celled = celled_same (rows_in a) rows3 (cells_of a.cells.items) w.celled (λ q u. record { used = sym (kept3 (λ z. z.used) refl q) ∙ u.used }) (λ q u. kept3 (λ z. z.head.results) refl q) (λ q u. kept3 (λ z. z.shapes) refl q) (kept3 (λ z. z.values) refl);
      }

    pub rewire_item : IsItem a.uses.homes (use_at (rows_in a) k j)
    rewire_item = use_item (rows_in a) (keys_in a) a.uses.homes (cells_of a.cells.items) w.index k j fd.live uk inside

    pub rewire_free : (u : ℕ) (homes1 : List ℕ) → u ≡ use_at (rows_in a) k j → homes1 ≡ set a.uses.homes u free → IsFree homes1 u
    rewire_free u homes1 eu e1 =
        let it = subst (IsItem a.uses.homes) (sym eu) rewire_item in
        record { inside = omega (arith, it.inside, ap length e1, length-set a.uses.homes u free); unlinked = ap (λ z. home_at z u) e1 ∙ get_or-set_same a.uses.homes u free free it.inside }

    pub rewire_headed : (u : ℕ) (homes1 : List ℕ) → u ≡ use_at (rows_in a) k j → homes1 ≡ set a.uses.homes u free → IsHead homes1 h
    rewire_headed u homes1 eu e1 =
        let it = subst (IsItem a.uses.homes) (sym eu) rewire_item in
        let hd = w.index.heads v h eh in
        record { inside = omega (arith, hd.inside, ap length e1, length-set a.uses.homes u free); own = ap (λ z. home_at z h) e1 ∙ get_or-set_other a.uses.homes u h free free (not_item a.uses.homes h u hd it) ∙ hd.own }
