-- The number of the module's operations, their ids, and the owners of the values that they use.
use Rattle.std.proofs.Common.{◌≡◌, ◌⊎◌, ℕ, zero, suc, ◌+◌, ◌<◌, ◌≤◌, List, [], ◌∷◌, map, set, refl, sym, ap, ◌∙◌, subst, length, Bool, true, false, eqb, not, ⊎_elim, inl, inr, arith, Option, Some, None, slice_get}
use Rattle.std.specs.Prelude.{is_some, option_and_then, if◌then◌else◌}
use Rattle.std.specs.List.{list_any}
use Rattle.std.proofs.lemmas.Bool.{cases_eq, eq-eqb, ne_eqb, cases_lt, false≢true, or_left, or_right}
use Rattle.std.proofs.lemmas.List.{length-map}
use Rattle.ir_store_reads.specs.Lists.{Lists}
use Rattle.ir_store_reads.specs.trees.declared.value.Value.{Value}
use Rattle.ir_store_reads.specs.trees.declared.place.Place.{Place}
use Rattle.ir_store_reads.specs.trees.Frames.{owner_of}
use Rattle.ir_store_reads.specs.trees.Tree.{Op, op, head}
use Rattle.ir_store_reads.specs.trees.Ids.{HasDistinctIds, ids, has_id, op_count}
use Rattle.ir_store_reads.specs.trees.Places.{put, without}
use Rattle.ir_store_reads.specs.tree_laws.Reasons.{has_place, leaves, unused}
use Rattle.ir_store_reads.proofs.of_tree_laws.Wellformed.{no_more}
use Rattle.ir_store_reads.proofs.of_tree_laws.Edited.{put_op_count, taken_op_count}
use Rattle.ir_store_reads.specs.Rows.{Row, row_at, if_live, live_slot, bare, row_with_operand}
use Rattle.ir_store_reads.specs.Spells.{SpellsOp}
use Rattle.ir_store_reads.specs.Right.{Live, Right}
use Rattle.ir_store_reads.specs.Index.{operand_at, value_head, slot_head, HasOwners, HasIdsBelow}
use Rattle.ir_store_reads.specs.Grows.{Parts, Wider, Ready}
use Rattle.ir_store.proofs.Cut.{bare_is, has_cut}
use Rattle.ir_store_reads.proofs.Founds.{has_is}
use Rattle.ir_store.proofs.Distinct.{bare_own, bare_count, bare_apart}
use Rattle.ir_store_reads.proofs.SlotLaws.{found, found_op, in_tree_is, live_inside, only, root_id, root_live}
use Rattle.ir_store.proofs.Taking.{IsLeaf}
use Rattle.ir_store.proofs.Unused.{Passes, every_find}
use Rattle.ir_store_reads.proofs.of_trees.of_types.WordNumbers.{all_at}

any_at : (slots : List Row) (k y : ℕ) → k < length slots → (row_at slots k).head.id ≡ y → list_any (λ z. eqb z y) (map (λ r. r.head.id) slots) ≡ true
any_at [] k y l e = absurd (omega (arith, l))
any_at (r ∷ slots) zero y l e = or_left (eqb r.head.id y) _ (eq-eqb r.head.id y e)
any_at (r ∷ slots) (suc k) y l e = or_right (eqb r.head.id y) _ (any_at slots k y (omega (arith, l)) e)

-- a live slot stays live
pub live_stays : (slots slots' : List Row) (keys keys' : ℕ → Option ℕ) (y : ℕ) → ((q : ℕ) → keys y ≡ Some q → Live slots q → (keys' y ≡ Some q) × Live slots' q)
    → is_some (live_slot slots keys y) ≡ true → is_some (live_slot slots' keys' y) ≡ true
live_stays slots slots' keys keys' y h e = go (keys y) refl e
  where
    go : (o : Option ℕ) → keys y ≡ o → is_some (if_live slots o) ≡ true → is_some (if_live slots' (keys' y)) ≡ true
    go None f g = absurd (false≢true g)
    go (Some q) f g = test (row_at slots q).live refl g
      where
        test : (b : Bool) → (row_at slots q).live ≡ b → is_some {T = ℕ} (if b then Some q else None) ≡ true → is_some (if_live slots' (keys' y)) ≡ true
        test true l g = let w = h q f (record { live = l }) in ap (λ z. is_some (if_live slots' z)) w.0 ∙ ap (λ b. is_some {T = ℕ} (if b then Some q else None)) w.1.live
        test false l g = absurd (false≢true g)

-- the live slot of an operation
pub some_live : (slots : List Row) (keys : ℕ → Option ℕ) (y : ℕ) → is_some (live_slot slots keys y) ≡ true → (q : ℕ) × ((keys y ≡ Some q) × Live slots q)
some_live slots keys y e = go (keys y) refl e
  where
    go : (o : Option ℕ) → keys y ≡ o → is_some (if_live slots o) ≡ true → (q : ℕ) × ((keys y ≡ Some q) × Live slots q)
    go None f g = absurd (false≢true g)
    go (Some q) f g = (q, (f, record { live = test (row_at slots q).live g }))
      where
        test : (b : Bool) → is_some {T = ℕ} (if b then Some q else None) ≡ true → b ≡ true
        test true h = refl
        test false h = absurd (false≢true h)

-- a value that has a head has an owner
pub value_owner : (slots : List Row) (slot_map : ℕ → Option ℕ) (v : Value) → is_some (value_head slots slot_map v) ≡ true → is_some (slot_map (owner_of v).0) ≡ true
value_owner slots slot_map v e = go (slot_map (owner_of v).0) e
  where
    go : (o : Option ℕ) → is_some (option_and_then (slot_head slots v) o) ≡ true → is_some o ≡ true
    go None f = absurd (false≢true f)
    go (Some q) f = refl

-- the removed operation isn't in the tree
pub left_out : (x : ℕ) (t : Op) → eqb (head t).id x ≡ false → has_id x (without x t) ≡ false
left_out x t e = sym (has_is x (without x t)) ∙ has_cut x t e

module _ (slots : List Row) (keys : ℕ → Option ℕ) (sibs : Lists) (root : ℕ) (t : Op) (r : Right slots keys sibs root t) (s : SpellsOp slots sibs.lists root t) where
  -- there are at most as many operations as slots
  pub count_within : HasDistinctIds t → op_count t ≤ length slots
  count_within d = subst (λ n. op_count t ≤ n) (length-map slots (λ z. z.head.id)) (no_more (ids t) (map (λ z. z.head.id) slots) d member)
    where
      member : (y : ℕ) → list_any (λ z. eqb z y) (ids t) ≡ true → list_any (λ z. eqb z y) (map (λ z. z.head.id) slots) ≡ true
      member y h = go (live_slot slots keys y) refl
        where
          go : (o : Option ℕ) → live_slot slots keys y ≡ o → list_any (λ z. eqb z y) (map (λ z. z.head.id) slots) ≡ true
          go None e = absurd (false≢true (sym (ap is_some e) ∙ in_tree_is slots keys sibs root t r s y ∙ h))
          go (Some k) e = let fd = found slots keys sibs root t r s y k e in any_at slots k y fd.inside fd.id

  -- the ids of the tree are those of live slots
  pub ids_below : (n : ℕ) → HasIdsBelow n slots → (y : ℕ) → has_id y t ≡ true → y < n
  ids_below n b y h = go (live_slot slots keys y) refl
    where
      go : (o : Option ℕ) → live_slot slots keys y ≡ o → y < n
      go None e = absurd (false≢true (sym (ap is_some e) ∙ in_tree_is slots keys sibs root t r s y ∙ h))
      go (Some k) e = let fd = found slots keys sibs root t r s y k e in subst (λ z. z < n) fd.id (b k fd.live)

  -- if the newest id isn't in the tree, all others are below it
  pub lower_below : (x n : ℕ) → n ≡ x + 1 → has_id x t ≡ false → HasIdsBelow n slots → HasIdsBelow x slots
  lower_below x n e out b k l =
      let id = (row_at slots k).head.id in
      let le = b k l in
      ⊎_elim
      (λ z. absurd (false≢true (sym out ∙ ap (λ y. has_id y t) (sym z) ∙ r.covers k l)))
      (λ ne. ⊎_elim (λ lt. lt) (λ ge. absurd (ne (omega (arith, le, e, ge)))) (cases_lt id x))
      (cases_eq id x)

  -- the headers of live slots are headers of operations of the tree
  head_is : (q : ℕ) (o : Op) → SpellsOp slots sibs.lists q o → (row_at slots q).head ≡ head o
  head_is q (op h rs) w = w.1.0

  -- if no value of operation x is used, no operand is a value of x
  pub no_user : (x : ℕ) → unused x t ≡ true → (q j : ℕ) (v : Value) → Live slots q → operand_at slots q j ≡ Some v → (owner_of v).0 ≡ x → ⊥
  no_user x u q j v l e f =
      let id = (row_at slots q).head.id in
      let slot : live_slot slots keys id ≡ Some q = ap (if_live slots) (r.keyed q (r.live_used q l)) ∙ rw l.live refl in
      let o = found_op slots keys sibs root t r s id q (found slots keys sibs root t r s id q slot) in
      let z : leaves x (head o.0) ≡ true = subst (Passes (leaves x)) o.1.0 (every_find (leaves x) id t u) in
      let p : not (eqb (owner_of v).0 x) ≡ true = all_at (λ w. not (eqb (owner_of w).0 x)) (head o.0).operands j v z (ap (λ d. slice_get d.operands j) (sym (head_is q o.0 o.1.1)) ∙ e) in
      false≢true (sym (ap not (eq-eqb (owner_of v).0 x f)) ∙ p)

  -- an operation is taken out
  module _ (x k : ℕ) (leaf : IsLeaf slots sibs.lists root x k) where
    not_top : eqb (head t).id x ≡ false
    not_top = ne_eqb (head t).id x (λ z. leaf.inner (sym (only slots keys sibs root t r s x k leaf.found.live leaf.found.id root (root_live slots keys sibs root t r s) (root_id slots keys sibs root t r s ∙ z))))

    pub cut_counted : HasDistinctIds t → op_count t ≡ op_count (without x t) + 1
    cut_counted d =
        let o = found_op slots keys sibs root t r s x k leaf.found in
        taken_op_count x t o.0 d o.1.0 not_top ∙ ap (λ n. op_count (without x t) + n) (ap op_count (sym (bare_is slots sibs.lists k o.0 leaf.bare o.1.1)) ∙ bare_count (row_at slots k))

    module _ (slots' : List Row) (same : (q : ℕ) → (q ≡ k → ⊥) → row_at slots' q ≡ row_at slots q) (gone : row_at slots' k ≡ record (row_at slots k) { live = false }) where
      not_k : (q : ℕ) → Live slots' q → q ≡ k → ⊥
      not_k q l e = false≢true (sym (ap (λ z. z.live) gone) ∙ ap (λ z. (row_at slots' z).live) (sym e) ∙ l.live)

      was : (q : ℕ) → Live slots' q → Live slots q
      was q l = record { live = sym (ap (λ z. z.live) (same q (not_k q l))) ∙ l.live }

      pub cut_below : (n : ℕ) → HasIdsBelow n slots → HasIdsBelow n slots'
      cut_below n b q l = subst (λ z. z.head.id < n) (sym (same q (not_k q l))) (b q (was q l))

      pub cut_owned : unused x t ≡ true → HasOwners slots keys → HasOwners slots' keys
      cut_owned u h q j v l e =
          let f : operand_at slots q j ≡ Some v = sym (ap (λ z. slice_get z.head.operands j) (same q (not_k q l))) ∙ e in
          live_stays slots slots' keys keys (owner_of v).0
          (λ p g lp.
          let ne : p ≡ k → ⊥ = λ z. no_user x u q j v (was q l) f (sym (r.known (owner_of v).0 p g).id ∙ ap (λ w. (row_at slots w).head.id) z ∙ leaf.found.id) in
          (g, record { live = ap (λ z. z.live) (same p ne) ∙ lp.live }))
          (h q j v (was q l) f)

-- an empty operation is inserted
pub joined_counted : (place : Place) (r : Row) (t : Op) → HasDistinctIds t → has_id r.head.id t ≡ false → has_place place t ≡ true → op_count (put place (bare r) t) ≡ op_count t + 1
joined_counted place r t d out point =
    put_op_count place (bare r) t (record { distinct = d; own = bare_own r; apart = bare_apart r t out; point = point })
    ∙ ap (λ n. op_count t + n) (bare_count r)

module _ (slots : List Row) (keys : ℕ → Option ℕ) (k : ℕ) (slots' : List Row) (same : (q : ℕ) → (q ≡ k → ⊥) → row_at slots' q ≡ row_at slots q) (come : row_at slots' k ≡ record (row_at slots k) { live = true }) where
  more_live : (q : ℕ) → Live slots q → Live slots' q
  more_live q l = ⊎_elim
      (λ e. record { live = ap (λ z. (row_at slots' z).live) e ∙ ap (λ z. z.live) come })
      (λ n. record { live = ap (λ z. z.live) (same q n) ∙ l.live }) (cases_eq q k)

  was_live : (q : ℕ) → (q ≡ k → ⊥) → Live slots' q → Live slots q
  was_live q n l = record { live = sym (ap (λ z. z.live) (same q n)) ∙ l.live }

  pub join_below : (n m : ℕ) → n ≤ m → (row_at slots k).head.id < m → HasIdsBelow n slots → HasIdsBelow m slots'
  join_below n m le lt b q l = ⊎_elim
      (λ e. subst (λ z. z < m) (sym (ap (λ z. (row_at slots' z).head.id) e ∙ ap (λ z. z.head.id) come)) lt)
      (λ ne. let w = b q (was_live q ne l) in subst (λ z. z.head.id < m) (sym (same q ne)) (omega (arith, w, le)))
      (cases_eq q k)

  pub join_owned : ((j : ℕ) (v : Value) → operand_at slots k j ≡ Some v → is_some (live_slot slots keys (owner_of v).0) ≡ true) → HasOwners slots keys → HasOwners slots' keys
  join_owned own h q j v l e = live_stays slots slots' keys keys (owner_of v).0 (λ p g lp. (g, more_live p lp)) (⊎_elim
      (λ z. own j v (sym (ap (λ w. slice_get w.head.operands j) (ap (row_at slots') z ∙ come)) ∙ e))
      (λ n. h q j v (was_live q n l) (sym (ap (λ z. slice_get z.head.operands j) (same q n)) ∙ e))
      (cases_eq q k))

-- slots with more slots appended
module _ (p q : Parts) (wide : Wider p q) (keys : ℕ → Option ℕ) where
  wide_was : (k : ℕ) → Live q.slots k → (row_at q.slots k ≡ row_at p.slots k) × Live p.slots k
  wide_was k l = ⊎_elim
      (λ i. (wide.row k i, record { live = sym (ap (λ z. z.live) (wide.row k i)) ∙ l.live }))
      (λ g. absurd (false≢true (sym (wide.spare k g).live ∙ l.live)))
      (cases_lt k (length p.slots))

  wide_live : (k : ℕ) → Live p.slots k → Live q.slots k
  wide_live k l = record { live = ap (λ z. z.live) (wide.row k (live_inside p.slots k l)) ∙ l.live }

  pub wide_below : (n : ℕ) → HasIdsBelow n p.slots → HasIdsBelow n q.slots
  wide_below n b k l = let w = wide_was k l in subst (λ z. z.head.id < n) (sym w.0) (b k w.1)

  pub wide_owned : HasOwners p.slots keys → HasOwners q.slots keys
  wide_owned h k j v l e =
      let w = wide_was k l in
      live_stays p.slots q.slots keys keys (owner_of v).0 (λ y g ly. (g, wide_live y ly)) (h k j v w.1 (sym (ap (λ z. slice_get z.head.operands j) w.0) ∙ e))

-- a free slot is written
module _ (q : Parts) (keys : ℕ → Option ℕ) (bound k x : ℕ) (w : Row) (ready : Ready q keys bound k x w)
    (slots' : List Row) (same : (y : ℕ) → (y ≡ k → ⊥) → row_at slots' y ≡ row_at q.slots y) (own : row_at slots' k ≡ w)
    (keys' : ℕ → Option ℕ) (others : (y : ℕ) → (y ≡ x → ⊥) → keys' y ≡ keys y) where
  fill_not : (y : ℕ) → Live slots' y → y ≡ k → ⊥
  fill_not y l e = false≢true (sym ready.live ∙ ap (λ z. z.live) (sym own) ∙ ap (λ z. (row_at slots' z).live) (sym e) ∙ l.live)

  fill_was : (y : ℕ) → Live slots' y → Live q.slots y
  fill_was y l = record { live = sym (ap (λ z. z.live) (same y (fill_not y l))) ∙ l.live }

  spare_not : (y : ℕ) → Live q.slots y → y ≡ k → ⊥
  spare_not y l e = false≢true (sym ready.spare.live ∙ ap (λ z. (row_at q.slots z).live) (sym e) ∙ l.live)

  pub fill_below : (n : ℕ) → HasIdsBelow n q.slots → HasIdsBelow n slots'
  fill_below n b y l = subst (λ z. z.head.id < n) (sym (same y (fill_not y l))) (b y (fill_was y l))

  pub fill_owned : HasOwners q.slots keys → HasOwners slots' keys'
  fill_owned h y j v l e =
      live_stays q.slots slots' keys keys' (owner_of v).0
      (λ p g lp.
      let ne : (owner_of v).0 ≡ x → ⊥ = λ z. (let n : None ≡ Some p = sym ready.unknown ∙ ap keys (sym z) ∙ g in absurd cc) in
      (others (owner_of v).0 ne ∙ g, record { live = ap (λ z. z.live) (same p (spare_not p lp)) ∙ lp.live }))
      (h y j v (fill_was y l) (sym (ap (λ z. slice_get z.head.operands j) (same y (fill_not y l))) ∙ e))

-- an operand is written
slice_set_cases : (vs : List Value) (j i : ℕ) (v w : Value) → slice_get (set vs j v) i ≡ Some w → (w ≡ v) ⊎ (slice_get vs i ≡ Some w)
slice_set_cases [] j i v w e = inr e
slice_set_cases (y ∷ vs) zero zero v w e = let z : v ≡ w = cc in inl (sym z)
slice_set_cases (y ∷ vs) zero (suc i) v w e = inr e
slice_set_cases (y ∷ vs) (suc j) zero v w e = inr e
slice_set_cases (y ∷ vs) (suc j) (suc i) v w e = slice_set_cases vs j i v w e

module _ (slots : List Row) (keys : ℕ → Option ℕ) (k j : ℕ) (v : Value) (slots' : List Row) (same : (q : ℕ) → (q ≡ k → ⊥) → row_at slots' q ≡ row_at slots q) (new : row_at slots' k ≡ row_with_operand j v (row_at slots k)) where
  write_live : (q : ℕ) → (row_at slots' q).live ≡ (row_at slots q).live
  write_live q = ⊎_elim
      (λ e. ap (λ z. (row_at slots' z).live) e ∙ ap (λ z. z.live) new ∙ ap (λ z. (row_at slots z).live) (sym e))
      (λ n. ap (λ z. z.live) (same q n)) (cases_eq q k)

  write_id : (q : ℕ) → (row_at slots' q).head.id ≡ (row_at slots q).head.id
  write_id q = ⊎_elim
      (λ e. ap (λ z. (row_at slots' z).head.id) e ∙ ap (λ z. z.head.id) new ∙ ap (λ z. (row_at slots z).head.id) (sym e))
      (λ n. ap (λ z. z.head.id) (same q n)) (cases_eq q k)

  pub write_below : (n : ℕ) → HasIdsBelow n slots → HasIdsBelow n slots'
  write_below n b q l = subst (λ z. z < n) (sym (write_id q)) (b q (record { live = sym (write_live q) ∙ l.live }))

  pub write_owned : is_some (live_slot slots keys (owner_of v).0) ≡ true → HasOwners slots keys → HasOwners slots' keys
  write_owned there h q i w l e =
      let was : Live slots q = record { live = sym (write_live q) ∙ l.live } in
      live_stays slots slots' keys keys (owner_of w).0 (λ p g lp. (g, record { live = write_live p ∙ lp.live })) (⊎_elim
      (λ z.
      let f : slice_get (set (row_at slots k).head.operands j v) i ≡ Some w = sym (ap (λ y. slice_get y.head.operands i) (ap (row_at slots') z ∙ new)) ∙ e in
      ⊎_elim
      (λ y. subst (λ u. is_some (live_slot slots keys (owner_of u).0) ≡ true) (sym y) there)
      (λ y. h q i w was (ap (λ u. slice_get (row_at slots u).head.operands i) z ∙ y))
      (slice_set_cases (row_at slots k).head.operands j i v w f))
      (λ n. h q i w was (sym (ap (λ z. slice_get z.head.operands i) (same q n)) ∙ e))
      (cases_eq q k))
