-- The slots of a module of one operation whose blocks are empty.
use Rattle.std.proofs.Common.{◌≡◌, ℕ, ◌<◌, List, [], ◌∷◌, set, refl, sym, ap, ◌∙◌, subst, length, true, eqb, cond, ⊎_elim, arith, Option, Some, None, slice_get}
use Rattle.std.specs.Ordering.{nat_cmp}
use Rattle.std.specs.Cmp.{nat_cmp_total}
use Rattle.std.specs.FinMap as finmap
use Rattle.std.proofs.lemmas.Bool.{cases_eq, eq-eqb, ne_eqb, cond-true, cond-false, false≢true, or_left}
use Rattle.std.proofs.lemmas.List.{length-set, get_or-set_same, get_or-set_other}
use Rattle.ir_store_reads.specs.Lists.{home_at, free}
use Rattle.ir_store.proofs.Distinct.{bare_own, bare_count}
use Rattle.ir_store_reads.specs.trees.Ids.{HasDistinctIds, has_id, op_count}
use Rattle.ir_store_reads.specs.trees.Tree.{Op, op, head}
use Rattle.ir_store_reads.specs.tree_laws.Reasons.{with_id}
use Rattle.ir_store_reads.specs.Stored.{Gone, none_gone}
use Rattle.ir_store_reads.specs.Emptied.{emptied}
use Rattle.ir_store_reads.specs.Rows.{Row, row_at, no_row, held_in, gone_in, bare, bare_regions}
use Rattle.ir_store_reads.specs.Spells.{SpellsOp, SpellsRegions}
use Rattle.ir_store_reads.specs.Right.{Live, Used, HoldsId, Right}
use Rattle.std.specs.Prelude.{if◌then◌else◌}
use Rattle.ir_store_reads.specs.Marks.{mark, has_gone, home_of, node_of_slot, Reaches}
use Rattle.ir_store_reads.proofs.Marking.{marked_edit, marked_same, marked_none, set_as_is}
use Rattle.ir_store.proofs.Growing.{spare_mark}
use Rattle.ir_store_reads.specs.Index.{value_head, all_led, Index, Celled, lives, Fits}
use Rattle.ir_store_reads.specs.Grows.{Parts, Spare, IsEven, Wider, Ready, Grown}
use Rattle.ir_store_reads.proofs.Items.{eq_nat}
use Rattle.ir_store.proofs.Joining.{bare_spells}
use Rattle.ir_store.proofs.Used.{join_index}
use Rattle.ir_store_reads.proofs.Wide.{Keyed, wide_index, wide_bound}
use Rattle.ir_store.proofs.Fill.{bound_apart, fill_index, fill_celled}
use Rattle.ir_store_reads.proofs.Celled.{celled_edit}
use Rattle.std.proofs.lemmas.Option.{same_Some}

abbrev pub nothing : Parts
nothing = record { slots = []; sibs = record { lists = []; homes = []; headroom = 0 }; homes = []; cells = [] }

pub nothing_even : IsEven nothing
nothing_even = record { long = refl; lists = refl; counted = refl }

abbrev no_keys : ℕ → Option ℕ
no_keys y = None

no_used : (k : ℕ) → Used [] k → ⊥
no_used k u = false≢true u.used

nothing_keyed : Keyed [] no_keys (record { lists = []; homes = []; headroom = 0 })
nothing_keyed = record { long = refl; keyed = λ k u. absurd (no_used k u); known = λ x k e. absurd cc; blocks = λ k r a u e. absurd (no_used k u) }

nothing_index : Index [] no_keys [] [] (lives [])
nothing_index = record {
  counted = refl;
  cell = λ k j v u e. absurd (no_used k u);
  linked = λ k j v u e o. absurd (no_used k u);
  unlinked_home = λ k j v u e o. absurd (no_used k u);
  users = λ u i. (let z : u < 0 = i.inside in absurd (omega arith));
  heads = λ v h e. absurd cc;
  one = λ v w h e f. absurd cc;
}

module _ (q : Parts) (wide : Wider nothing q) (few : length q.sibs.homes < free) (uses_few : length q.homes < free) (x : ℕ) (o : Op) (k : ℕ) (v : Row) (grown : Grown 0 q x o k v)
    (keys : ℕ → Option ℕ) (ek : (y : ℕ) → keys y ≡ cond (eqb x y) (Some k) None) (bare_head : v.head.operands ≡ [])
    (slots' : List Row) (long' : length slots' ≡ length q.slots) (same : (y : ℕ) → (y ≡ k → ⊥) → row_at slots' y ≡ row_at q.slots y) (own : row_at slots' k ≡ record v { live = true }) where
  ready : Ready q no_keys 0 k x v
  ready = grown.ready no_keys refl

  here : keys x ≡ Some k
  here = ek x ∙ cond-true (eqb x x) (Some k) None (eq-eqb x x refl)

  others : (y : ℕ) → (y ≡ x → ⊥) → keys y ≡ None
  others y n = ek y ∙ cond-false (eqb x y) (Some k) None (ne_eqb x y (λ e. n (sym e)))

  spare : (y : ℕ) → Spare q.slots y
  spare y = wide.spare y (omega arith)

  only_used : (y : ℕ) → Used slots' y → y ≡ k
  only_used y u = ⊎_elim (λ e. e) (λ n. absurd (false≢true (sym (ap (λ z. z.used) (same y n) ∙ (spare y).used) ∙ u.used))) (cases_eq y k)

  only_live : (y : ℕ) → Live slots' y → y ≡ k
  only_live y u = ⊎_elim (λ e. e) (λ n. absurd (false≢true (sym (ap (λ z. z.live) (same y n) ∙ (spare y).live) ∙ u.live))) (cases_eq y k)

  key_is : (y j : ℕ) → keys y ≡ Some j → (y ≡ x) × (j ≡ k)
  key_is y j e = ⊎_elim
      (λ z. (z, same_Some j k (sym e ∙ ap keys z ∙ here)))
      (λ n. (let z : None ≡ Some j = sym (others y n) ∙ e in absurd cc))
      (cases_eq y x)

  block_not : (i : ℕ) (a : List ℕ × ℕ) → slice_get v.shapes i ≡ Some (Some a) → a.1 ≡ k → ⊥
  block_not i a e z =
      let b = (ready.blocks i a e).head in
      let f : a.1 ≡ free = sym b.own ∙ ap (home_at q.sibs.homes) z ∙ ready.out.unlinked in
      let l : a.1 < length q.sibs.homes = b.inside in
      omega arith

  abbrev pub seed : Op
  seed = bare v

  pub seed_spells : SpellsOp slots' q.sibs.lists k seed
  seed_spells = (
    ap (λ z. z.live) own,
    (
      ap (λ z. z.head) own,
      subst (λ z. SpellsRegions slots' q.sibs.lists z (bare_regions v.shapes)) (sym (ap (λ z. z.shapes) own))
          (bare_spells slots' q.sibs.lists v.shapes (λ i a e. (ready.blocks i a e).bare)),
    ),
  )

  pub seed_right : Right slots' keys q.sibs k seed
  seed_right = record {
    few = few;
    long = long' ∙ wide.even.long;
    live_used = λ y l. let e = only_live y l in record { used = ap (λ z. (row_at slots' z).used) e ∙ ap (λ z. z.used) own ∙ ready.used };
    keyed = λ y u. let e = only_used y u in ap (λ z. keys (row_at slots' z).head.id) e ∙ ap (λ z. keys z.head.id) own ∙ ap keys ready.id ∙ here ∙ ap Some (sym e);
    known = λ y j e.
        let f = key_is y j e in
        subst (HoldsId slots' y) (sym f.1) (record { used = record { used = ap (λ z. z.used) own ∙ ready.used }; id = ap (λ z. z.head.id) own ∙ ready.id ∙ sym f.0 });
    top = ready.out;
    blocks = λ y i a u e.
        let z = only_used y u in
        let f = sym (ap (λ s. slice_get s.shapes i) own) ∙ ap (λ s. slice_get (row_at slots' s).shapes i) (sym z) ∙ e in
        let b = ready.blocks i a f in
        let g = same a.1 (block_not i a f) in
        record { head = b.head; owner = ap (λ s. s.owner) g ∙ b.owner ∙ sym z; region = ap (λ s. s.region) g ∙ b.region };
    items = λ y l ne. absurd (ne (only_live y l));
    held = λ y u e. absurd (false≢true (sym e ∙ ap (λ z. (row_at slots' z).live) (only_used y u) ∙ ap (λ z. z.live) own));
    covers = λ y l. ap (λ z. has_id (row_at slots' z).head.id seed) (only_live y l) ∙ ap (λ z. has_id z.head.id seed) own ∙ or_left (eqb v.head.id v.head.id) _ (eq-eqb v.head.id v.head.id refl);
  }

  pub seed_holds : (y : ℕ) → finmap.get (finmap.empty {X = Op} {R = nat_cmp}) y ≡ held_in slots' (keys y)
  seed_holds y = finmap.get-empty nat_cmp y ∙ sym (⊎_elim
      (λ e. ap (held_in slots') (ap keys e ∙ here) ∙ ap (λ b. cond b None (Some (bare (row_at slots' k)))) (ap (λ z. z.live) own))
      (λ n. ap (held_in slots') (others y n))
      (cases_eq y x))

  pub seed_gone : (y : ℕ) → finmap.get (finmap.insert {R = nat_cmp} finmap.empty x none_gone) y ≡ gone_in slots' (keys y)
  seed_gone y = finmap.get-insert nat_cmp_total finmap.empty x none_gone y ∙ ap (λ b. cond b (Some none_gone) (finmap.get (finmap.empty {X = Gone} {R = nat_cmp}) y)) (eq_nat y x) ∙ ⊎_elim
      (λ e. cond-true (eqb y x) (Some none_gone) (finmap.get (finmap.empty {X = Gone} {R = nat_cmp}) y) (eq-eqb y x e) ∙ sym (ap (gone_in slots') (ap keys e ∙ here) ∙ ap (λ z. Some z.gone) own ∙ ap Some grown.gone))
      (λ n. cond-false (eqb y x) (Some none_gone) (finmap.get (finmap.empty {X = Gone} {R = nat_cmp}) y) (ne_eqb y x n) ∙ finmap.get-empty nat_cmp y ∙ sym (ap (gone_in slots') (others y n)))
      (cases_eq y x)

  -- the root is first held
  held_rows : List Row
  held_rows = set q.slots k v

  held_same : (y : ℕ) → (y ≡ k → ⊥) → row_at (set q.slots k v) y ≡ row_at q.slots y
  held_same y n = get_or-set_other q.slots k y v no_row n

  held_own : row_at (set q.slots k v) k ≡ v
  held_own = get_or-set_same q.slots k v no_row ready.inside

  spare_keyed : Keyed q.slots no_keys q.sibs
  spare_keyed = record {
    long = wide.even.long;
    keyed = λ y u. absurd (false≢true (sym (spare y).used ∙ u.used));
    known = λ y j e. absurd cc;
    blocks = λ y i a u e. absurd (false≢true (sym (spare y).used ∙ u.used));
  }

  held_index : Index (set q.slots k v) keys q.homes q.cells (lives (set q.slots k v))
  held_index = fill_index q wide.even few no_keys 0 k x v ready spare_keyed (set q.slots k v) (length-set q.slots k v) held_same held_own keys here others
      (bound_apart q no_keys 0 k v (wide_bound nothing q wide no_keys nothing_keyed nothing_index)) (wide_index nothing q wide no_keys nothing_keyed nothing_index)

  held_celled : Celled (set q.slots k v) q.cells
  held_celled = fill_celled q wide.even few no_keys 0 k x v ready spare_keyed (set q.slots k v) (length-set q.slots k v) held_same held_own keys here others
      (record { results = λ y i u l. absurd (false≢true (sym (spare y).used ∙ u.used)); arguments = λ y j i a u e l. absurd (false≢true (sym (spare y).used ∙ u.used)) })

  no_operands : (row_at (set q.slots k v) k).head.operands ≡ []
  no_operands = ap (λ z. z.head.operands) held_own ∙ bare_head

  pub seed_index : Index slots' keys q.homes q.cells (lives slots')
  seed_index = subst (λ os. Index slots' keys (all_led (value_head (set q.slots k v) keys) (row_at (set q.slots k v) k).uses os q.homes) q.cells (lives slots')) no_operands
      (join_index (set q.slots k v) keys q.homes q.cells uses_few held_index k (record { used = ap (λ z. z.used) held_own ∙ ready.used }) slots'
      (λ y n. same y n ∙ sym (held_same y n)) true (own ∙ ap {A = Row} {B = Row} (λ z. record z { live = true }) (sym held_own)) refl (ap (λ z. z.live) held_own ∙ ready.live)
      (λ i w e. (let z : None ≡ Some w = sym (ap (λ os. slice_get os i) no_operands) ∙ e in absurd cc)))

  seed_row : (y : ℕ) → Live slots' y → row_at slots' y ≡ record v { live = true }
  seed_row y l = ap (row_at slots') (only_live y l) ∙ own

  pub seed_fits : (free_id : ℕ) → x < free_id → (s : (t : Op) × SpellsOp slots' q.sibs.lists k t) → s.0 ≡ seed → (marks more : List ℕ) → marks ≡ 0 ∷ 1 ∷ [] → Reaches marks more → node_of_slot k < length more → Fits slots' keys q.sibs k s.0 q.homes q.cells 1 free_id more
  seed_fits free_id below s e marks more em reached there = record {
    right = subst (Right slots' keys q.sibs k) (sym e) seed_right;
    few = uses_few;
    index = seed_index;
    distinct = subst HasDistinctIds (sym e) (bare_own v);
    counted = sym (ap op_count e ∙ bare_count v);
    below = λ y l. subst (λ z. z < free_id) (sym (ap (λ z. z.head.id) (seed_row y l) ∙ ready.id)) below;
    owned = λ y j u l f. (let z : None ≡ Some u = sym (ap (λ os. slice_get os j) (ap (λ z. z.head.operands) (seed_row y l) ∙ bare_head)) ∙ f in absurd cc);
    marked =
        let none = marked_none marks more em reached in
        let old = marked_same [] q.slots more none (λ y. let z = wide.spare y (omega arith) in spare_mark (row_at q.slots y) z.used z.live) (λ y. (wide.spare y (omega arith)).used) in
        let out : mark (row_at slots' k) ≡ None = ap mark own ∙ ap (λ g. if has_gone g then Some 1 else None) grown.gone in
        marked_edit q.slots slots' more more k old there same (sym (ap (λ o. set more (node_of_slot k) (home_of o)) out ∙ set_as_is more (node_of_slot k) (reached.same (node_of_slot k) ∙ ap (λ z. home_at z (node_of_slot k)) em) there));
    celled = celled_edit (set q.slots k v) slots' q.cells k held_celled (λ y n. same y n ∙ sym (held_same y n)) (ap (λ z. z.used) own ∙ sym (ap (λ z. z.used) held_own))
        (ap (λ z. z.head.results) own ∙ sym (ap (λ z. z.head.results) held_own)) (ap (λ z. z.shapes) own ∙ sym (ap (λ z. z.shapes) held_own)) (ap (λ z. z.values) own ∙ sym (ap (λ z. z.values) held_own));
  }

  pub seed_is : x ≡ (head o).id → seed ≡ emptied o
  seed_is e = grown.is ∙ ap (λ z. with_id z (emptied o)) e ∙ same_id o
    where
      same_id : (o : Op) → with_id (head o).id (emptied o) ≡ emptied o
      same_id (op h rs) = refl

pub emptied_operands : (v : Row) (x : ℕ) (o : Op) → bare v ≡ with_id x (emptied o) → (head o).operands ≡ [] → v.head.operands ≡ []
emptied_operands v x (op h rs) e f = ap (λ z. (head z).operands) e ∙ f
