-- How the slots change when a row is written into a free slot: the operation is held.
use Rattle.std.proofs.Common.{◌≡◌, ◌⊎◌, ℕ, ◌+◌, ◌<◌, List, refl, sym, ap, ◌∙◌, subst, length, Bool, true, false, eqb, cond, ⊎_elim, inl, inr, arith, Option, Some, None, slice_get}
use Rattle.std.specs.Prelude.{option_and_then, nat_lt, if◌then◌else◌}
use Rattle.std.specs.Ordering.{nat_cmp}
use Rattle.std.specs.Cmp.{nat_cmp_total}
use Rattle.std.specs.FinMap as finmap
use Rattle.std.proofs.lemmas.Bool.{cases_eq, eq-eqb, ne_eqb, cond-true, cond-false, false≢true, ltb-true}
use Rattle.std.proofs.lemmas.Bool.Decides.{nat_tests}
use Rattle.ir_store_reads.specs.Lists.{IsHead, IsFree, home_at, free}
use Rattle.ir_store_reads.specs.trees.declared.value.Value.{Value}
use Rattle.ir_store_reads.specs.trees.declared.value.Value.TheVariants.{Result, Arg}
use Rattle.ir_store_reads.specs.trees.Frames.{owner_of}
use Rattle.ir_store_reads.specs.trees.Ids.{has_id}
use Rattle.ir_store_reads.specs.trees.Tree.{Op}
use Rattle.ir_store_reads.specs.Stored.{Gone}
use Rattle.ir_store_reads.specs.Rows.{Row, RegionShape, row_at, held_in, gone_in, bare}
use Rattle.ir_store_reads.specs.Spells.{SpellsOp}
use Rattle.ir_store_reads.specs.Right.{Live, Used, HoldsId, Right}
use Rattle.ir_store_reads.specs.Index.{operand_at, use_at, argument_head, slot_head, value_head, CellOf, LinkedTo, Index, Celled, cell_at, lives}
use Rattle.ir_store_reads.specs.Grows.{Parts, IsEven, NewHead, NewUse, Ready}
use Rattle.ir_store_reads.proofs.Items.{eq_nat}
use Rattle.ir_store_reads.proofs.Wide.{Keyed, keyed_of, same_spells}
use Rattle.ir_store_reads.proofs.of_trees.of_types.Truths.{if_some}
use Rattle.std.proofs.lemmas.Option.{same_Some}

-- the head h is that of value v of the operation in slot k
abbrev pub Named : Parts → ℕ → ℕ → Row → Value → ℕ → Type 0
Named q bound k w (Result y i) h = NewHead q bound k i h
Named q bound k w (Arg y j i) h = (a : List ℕ × ℕ) × ((slice_get w.shapes j ≡ Some (Some a)) × NewHead q bound a.1 i h)

-- the heads of its values differ from all heads in use
abbrev pub IsApart : Parts → (ℕ → Option ℕ) → ℕ → ℕ → Row → Type 0
IsApart q keys bound k w = (u v : Value) (h : ℕ) → Named q bound k w u h → value_head q.slots keys v ≡ Some h → ⊥

-- the heads of these are below a bound
pub bound_apart : (q : Parts) (keys : ℕ → Option ℕ) (bound k : ℕ) (w : Row) → ((v : Value) (h : ℕ) → value_head q.slots keys v ≡ Some h → h < bound) → IsApart q keys bound k w
bound_apart q keys bound k w old (Result y i) v h n e = let l = old v h e in omega (arith, n.new, l)
bound_apart q keys bound k w old (Arg y j i) v h n e = let l = old v h e in let m = n.1.1.new in omega (arith, m, l)

module _ (q : Parts) (even : IsEven q) (few : length q.sibs.homes < free) (keys : ℕ → Option ℕ) (bound k x : ℕ) (w : Row) (ready : Ready q keys bound k x w) (r : Keyed q.slots keys q.sibs)
    (slots' : List Row) (long' : length slots' ≡ length q.slots) (same : (y : ℕ) → (y ≡ k → ⊥) → row_at slots' y ≡ row_at q.slots y) (own : row_at slots' k ≡ w)
    (keys' : ℕ → Option ℕ) (here : keys' x ≡ Some k) (others : (y : ℕ) → (y ≡ x → ⊥) → keys' y ≡ keys y) where
  used_not : (y : ℕ) → Used q.slots y → y ≡ k → ⊥
  used_not y u e = false≢true (sym ready.spare.used ∙ ap (λ z. (row_at q.slots z).used) (sym e) ∙ u.used)

  live_not : (y : ℕ) → Live q.slots y → y ≡ k → ⊥
  live_not y u e = false≢true (sym ready.spare.live ∙ ap (λ z. (row_at q.slots z).live) (sym e) ∙ u.live)

  head_not : (h : ℕ) → IsHead q.sibs.homes h → h ≡ k → ⊥
  head_not h p e =
      let f : h ≡ free = sym p.own ∙ ap (home_at q.sibs.homes) e ∙ ready.out.unlinked in
      let l : h < length q.sibs.homes = p.inside in
      omega arith

  used_was : (y : ℕ) → (y ≡ k → ⊥) → Used slots' y → Used q.slots y
  used_was y n u = record { used = sym (ap (λ z. z.used) (same y n)) ∙ u.used }

  live_was : (y : ℕ) → Live slots' y → (y ≡ k → ⊥) × Live q.slots y
  live_was y l =
      let n : y ≡ k → ⊥ = λ e. false≢true (sym ready.live ∙ ap (λ z. z.live) (sym own) ∙ ap (λ z. (row_at slots' z).live) (sym e) ∙ l.live) in
      (n, record { live = sym (ap (λ z. z.live) (same y n)) ∙ l.live })

  not_x : (y : ℕ) → Used q.slots y → (row_at q.slots y).head.id ≡ x → ⊥
  not_x y u e = let z : None ≡ Some y = sym ready.unknown ∙ ap keys (sym e) ∙ r.keyed y u in absurd cc

  used_own : Used slots' k
  used_own = record { used = ap (λ z. z.used) own ∙ ready.used }

  block_row : (y i : ℕ) (a : List ℕ × ℕ) → IsHead q.sibs.homes a.1 → row_at slots' a.1 ≡ row_at q.slots a.1
  block_row y i a h = same a.1 (head_not a.1 h)

  module _ (apart : IsApart q keys bound k w) (ix : Index q.slots keys q.homes q.cells (lives q.slots)) where
    named : (v : Value) (h : ℕ) → slot_head slots' v k ≡ Some h → Named q bound k w v h
    named (Result y i) h e =
        let f = if_some (nat_lt i (length w.head.results)) (w.values + i) h (sym (ap (λ z. if nat_lt i (length z.head.results) then Some (z.values + i) else None) own) ∙ e) in
        subst (NewHead q bound k i) f.1 (ready.results i (ltb-true i (length w.head.results) f.0))
    named (Arg y j i) h e = go (slice_get w.shapes j) refl (ap (λ z. option_and_then (argument_head slots' i) (slice_get z.shapes j)) (sym own) ∙ e)
      where
        go : (o : Option RegionShape) → slice_get w.shapes j ≡ o → option_and_then (argument_head slots' i) o ≡ Some h → (a : List ℕ × ℕ) × ((slice_get w.shapes j ≡ Some (Some a)) × NewHead q bound a.1 i h)
        go None f g = absurd cc
        go (Some None) f g = absurd cc
        go (Some (Some a)) f g =
            let b = ready.blocks j a f in
            let c = if_some (nat_lt i (length a.0)) ((row_at q.slots a.1).values + i) h (sym (ap (λ z. if nat_lt i (length a.0) then Some (z.values + i) else None) (block_row k j a b.head)) ∙ g) in
            (a, (f, subst (NewHead q bound a.1 i) c.1 (b.arguments i (ltb-true i (length a.0) c.0))))

    -- the slot of a value
    abbrev Whose : Value → ℕ → Type 0
    Whose v h = (((owner_of v).0 ≡ x) × Named q bound k w v h) ⊎ (value_head q.slots keys v ≡ Some h)

    other_slot : (v : Value) (j : ℕ) → Used q.slots j → slot_head slots' v j ≡ slot_head q.slots v j
    other_slot (Result y i) j u = ap (λ z. if nat_lt i (length z.head.results) then Some (z.values + i) else None) (same j (used_not j u))
    other_slot (Arg y n i) j u = ap (λ z. option_and_then (argument_head slots' i) (slice_get z.shapes n)) (same j (used_not j u)) ∙ go (slice_get (row_at q.slots j).shapes n) refl
      where
        go : (o : Option RegionShape) → slice_get (row_at q.slots j).shapes n ≡ o → option_and_then (argument_head slots' i) o ≡ option_and_then (argument_head q.slots i) o
        go None e = refl
        go (Some None) e = refl
        go (Some (Some a)) e = ap (λ z. if nat_lt i (length a.0) then Some (z.values + i) else None) (block_row j n a (r.blocks j n a u e).head)

    old_head : (v : Value) → ((owner_of v).0 ≡ x → ⊥) → value_head slots' keys' v ≡ value_head q.slots keys v
    old_head v n = ap (option_and_then (slot_head slots' v)) (others (owner_of v).0 n) ∙ go (keys (owner_of v).0) refl
      where
        go : (o : Option ℕ) → keys (owner_of v).0 ≡ o → option_and_then (slot_head slots' v) o ≡ option_and_then (slot_head q.slots v) o
        go None e = refl
        go (Some j) e = other_slot v j (r.known (owner_of v).0 j e).used

    whose : (v : Value) (h : ℕ) → value_head slots' keys' v ≡ Some h → Whose v h
    whose v h e = ⊎_elim
        (λ z. inl (z, named v h (sym (ap (option_and_then (slot_head slots' v)) (ap keys' z ∙ here)) ∙ e)))
        (λ n. inr (sym (old_head v n) ∙ e))
        (cases_eq (owner_of v).0 x)

    head_of_new : (v : Value) (h : ℕ) → Named q bound k w v h → IsHead q.homes h
    head_of_new (Result y i) h p = p.head
    head_of_new (Arg y j i) h p = p.1.1.head

    -- two values of the operation with the same head are equal
    same_named : (u v : Value) (h : ℕ) → (owner_of u).0 ≡ x → (owner_of v).0 ≡ x → Named q bound k w u h → Named q bound k w v h → u ≡ v
    same_named (Result y i) (Result z j) h eu ev a b =
        let p : ◌≡◌ {A = ℕ × ℕ} (k, i) (k, j) = sym a.cell ∙ b.cell in
        λ s. Result ((eu ∙ sym ev) s) ((p s).1)
    same_named (Result y i) (Arg z n j) h eu ev a b =
        let p : ◌≡◌ {A = ℕ × ℕ} (k, i) (b.0.1, j) = sym a.cell ∙ b.1.1.cell in
        absurd (head_not b.0.1 (ready.blocks n b.0 b.1.0).head (sym (ap (λ z. z.0) p)))
    same_named (Arg y m i) (Result z j) h eu ev a b =
        let p : ◌≡◌ {A = ℕ × ℕ} (a.0.1, i) (k, j) = sym a.1.1.cell ∙ b.cell in
        absurd (head_not a.0.1 (ready.blocks m a.0 a.1.0).head (ap (λ z. z.0) p))
    same_named (Arg y m i) (Arg z n j) h eu ev a b =
        let p : ◌≡◌ {A = ℕ × ℕ} (a.0.1, i) (b.0.1, j) = sym a.1.1.cell ∙ b.1.1.cell in
        let f = ready.blocks m a.0 a.1.0 in
        let g = ready.blocks n b.0 b.1.0 in
        let e : m ≡ n = sym f.region ∙ ap (λ z. (row_at q.slots z.0).region) p ∙ g.region in
        λ s. Arg ((eu ∙ sym ev) s) (e s) ((p s).1)

    operand_was : (y : ℕ) (n : y ≡ k → ⊥) (j : ℕ) → operand_at slots' y j ≡ operand_at q.slots y j
    operand_was y n j = ap (λ z. slice_get z.head.operands j) (same y n)

    node_was : (y : ℕ) (n : y ≡ k → ⊥) (j : ℕ) → use_at slots' y j ≡ use_at q.slots y j
    node_was y n j = ap (λ z. z.uses + j) (same y n)

    -- an operand of the operation has a new node
    own_use : (y j : ℕ) (v : Value) → y ≡ k → operand_at slots' y j ≡ Some v → NewUse q y j (use_at slots' y j)
    own_use y j v z e =
        let f : slice_get w.head.operands j ≡ Some v = sym (ap (λ u. slice_get u.head.operands j) own) ∙ ap (λ u. operand_at slots' u j) (sym z) ∙ e in
        let g : use_at slots' y j ≡ w.uses + j = ap (λ u. use_at slots' u j) z ∙ ap (λ u. u.uses + j) own in
        subst (λ u. NewUse q y j u) (sym g) (subst (λ u. NewUse q u j (w.uses + j)) (sym z) (ready.operands j v f))

    own_live : (y : ℕ) → y ≡ k → (row_at slots' y).live ≡ false
    own_live y z = ap (λ u. (row_at slots' u).live) z ∙ ap (λ u. u.live) own ∙ ready.live

    owner_not : (v : Value) (h : ℕ) → value_head q.slots keys v ≡ Some h → (owner_of v).0 ≡ x → ⊥
    owner_not v h e z = let f : None ≡ Some h = sym (ap (option_and_then (slot_head q.slots v)) (ap keys z ∙ ready.unknown)) ∙ e in absurd cc

    pub fill_index : Index slots' keys' q.homes q.cells (lives slots')
    fill_index = record {
      counted = ix.counted;
      cell = λ y j v u e. ⊎_elim
          (λ z. let n = own_use y j v z e in record { inside = n.inside; cell = n.cell })
          (λ n.
          let c = ix.cell y j v (used_was y n u) (sym (operand_was y n j) ∙ e) in
          subst (λ z. CellOf q.homes q.cells z y j) (sym (node_was y n j)) c)
          (cases_eq y k);
      linked = λ y j v u e o. ⊎_elim
          (λ z. absurd (false≢true (sym (own_live y z) ∙ o)))
          (λ n.
          let l = ix.linked y j v (used_was y n u) (sym (operand_was y n j) ∙ e) (sym (ap (λ z. z.live) (same y n)) ∙ o) in
          subst (λ z. LinkedTo slots' keys' q.homes z v) (sym (node_was y n j)) (record { item = l.item; home = old_head v (owner_not v (home_at q.homes (use_at q.slots y j)) l.home) ∙ l.home }))
          (cases_eq y k);
      unlinked_home = λ y j v u e o. ⊎_elim
          (λ z. (own_use y j v z e).unlinked_home)
          (λ n. ap (home_at q.homes) (node_was y n j) ∙ ix.unlinked_home y j v (used_was y n u) (sym (operand_was y n j) ∙ e) (sym (ap (λ z. z.live) (same y n)) ∙ o))
          (cases_eq y k);
      users = λ u it.
          let st = ix.users u it in
          let n = used_not st.row st.use_of.used in
          record {
            row = st.row;
            place = st.place;
            value = st.value;
            use_of = record {
              used = record { used = ap (λ z. z.used) (same st.row n) ∙ st.use_of.used.used };
              operand = operand_was st.row n st.place ∙ st.use_of.operand;
              node = node_was st.row n st.place ∙ st.use_of.node;
            };
            put = ap (λ z. z.live) (same st.row n) ∙ st.put;
          };
      heads = λ v h e. ⊎_elim (λ z. head_of_new v h z.1) (λ z. ix.heads v h z) (whose v h e);
      one = λ u v h e f. ⊎_elim
          (λ a. ⊎_elim
          (λ b. same_named u v h a.0 b.0 a.1 b.1)
          (λ b. absurd (apart u v h a.1 b))
          (whose v h f))
          (λ a. ⊎_elim
          (λ b. absurd (apart v u h b.1 a))
          (λ b. ix.one u v h a b)
          (whose v h f))
          (whose u h e);
    }

  -- the cells of its heads have their owners
  pub fill_celled : Celled q.slots q.cells → Celled slots' q.cells
  fill_celled c = record {
    results = λ y i u l. ⊎_elim
        (λ z.
        let f = ap (row_at slots') z ∙ own in
        let m : i < length w.head.results = subst (λ v. i < length v.head.results) f l in
        ap (λ v. cell_at q.cells (v.values + i)) f ∙ (ready.results i m).cell ∙ ap (λ v. (v, i)) (sym z))
        (λ n.
        let f = same y n in
        ap (λ v. cell_at q.cells (v.values + i)) f ∙ c.results y i (used_was y n u) (subst (λ v. i < length v.head.results) f l))
        (cases_eq y k);
    arguments = λ y j i a u e l. ⊎_elim
        (λ z.
        let b = ready.blocks j a (sym (ap (λ v. slice_get v.shapes j) (ap (row_at slots') z ∙ own)) ∙ e) in
        ap (λ v. cell_at q.cells (v.values + i)) (block_row y j a b.head) ∙ (b.arguments i l).cell)
        (λ n.
        let g = sym (ap (λ v. slice_get v.shapes j) (same y n)) ∙ e in
        let b = r.blocks y j a (used_was y n u) g in
        ap (λ v. cell_at q.cells (v.values + i)) (block_row y j a b.head) ∙ c.arguments y j i a (used_was y n u) g l)
        (cases_eq y k);
  }

module _ (q : Parts) (even : IsEven q) (few : length q.sibs.homes < free) (keys : ℕ → Option ℕ) (bound k x : ℕ) (w : Row) (ready : Ready q keys bound k x w)
    (root : ℕ) (t : Op) (r : Right q.slots keys q.sibs root t)
    (slots' : List Row) (long' : length slots' ≡ length q.slots) (same : (y : ℕ) → (y ≡ k → ⊥) → row_at slots' y ≡ row_at q.slots y) (own : row_at slots' k ≡ w)
    (keys' : ℕ → Option ℕ) (here : keys' x ≡ Some k) (others : (y : ℕ) → (y ≡ x → ⊥) → keys' y ≡ keys y) where
  kd : Keyed q.slots keys q.sibs
  kd = keyed_of q.slots keys q.sibs root t r

  pub fill_spells : SpellsOp q.slots q.sibs.lists root t → SpellsOp slots' q.sibs.lists root t
  fill_spells s = same_spells q.slots slots' q.sibs.lists q.sibs.lists (λ y l. same y (live_not q even few keys bound k x w ready kd slots' long' same own keys' here others y l)) (λ h. refl) root t s

  pub fill_right : Right slots' keys' q.sibs root t
  fill_right = record {
    few = few;
    long = long' ∙ even.long;
    live_used = λ y l.
        let v = live_was q even few keys bound k x w ready kd slots' long' same own keys' here others y l in
        record { used = ap (λ z. z.used) (same y v.0) ∙ (r.live_used y v.1).used };
    keyed = λ y u. ⊎_elim
        (λ e. ap (λ z. keys' (row_at slots' z).head.id) e ∙ ap (λ z. keys' z.head.id) own ∙ ap keys' ready.id ∙ here ∙ ap Some (sym e))
        (λ n.
        let v = used_was q even few keys bound k x w ready kd slots' long' same own keys' here others y n u in
        ap (λ z. keys' z.head.id) (same y n) ∙ others (row_at q.slots y).head.id (not_x q even few keys bound k x w ready kd slots' long' same own keys' here others y v) ∙ r.keyed y v)
        (cases_eq y k);
    known = λ y j e. ⊎_elim
        (λ z.
        let f : k ≡ j = same_Some k j (sym here ∙ ap keys' (sym z) ∙ e) in
        subst (HoldsId slots' y) f (record { used = used_own q even few keys bound k x w ready kd slots' long' same own keys' here others; id = ap (λ v. v.head.id) own ∙ ready.id ∙ sym z }))
        (λ n.
        let h = r.known y j (sym (others y n) ∙ e) in
        let f = same j (used_not q even few keys bound k x w ready kd slots' long' same own keys' here others j h.used) in
        record { used = record { used = ap (λ z. z.used) f ∙ h.used.used }; id = ap (λ z. z.head.id) f ∙ h.id })
        (cases_eq y x);
    top = r.top;
    blocks = λ y i a u e. ⊎_elim
        (λ z.
        let b = ready.blocks i a (sym (ap (λ v. slice_get v.shapes i) own) ∙ ap (λ v. slice_get (row_at slots' v).shapes i) (sym z) ∙ e) in
        let f = block_row q even few keys bound k x w ready kd slots' long' same own keys' here others y i a b.head in
        record { head = b.head; owner = ap (λ v. v.owner) f ∙ b.owner ∙ sym z; region = ap (λ v. v.region) f ∙ b.region })
        (λ n.
        let b = r.blocks y i a (used_was q even few keys bound k x w ready kd slots' long' same own keys' here others y n u) (sym (ap (λ v. slice_get v.shapes i) (same y n)) ∙ e) in
        let f = block_row q even few keys bound k x w ready kd slots' long' same own keys' here others y i a b.head in
        record { head = b.head; owner = ap (λ v. v.owner) f ∙ b.owner; region = ap (λ v. v.region) f ∙ b.region })
        (cases_eq y k);
    items = λ y l ne. r.items y (live_was q even few keys bound k x w ready kd slots' long' same own keys' here others y l).1 ne;
    held = λ y u e. ⊎_elim
        (λ z. record {
          out = subst (IsFree q.sibs.homes) (sym z) ready.out;
          bare = λ i a f. (ready.blocks i a (sym (ap (λ v. slice_get v.shapes i) own) ∙ ap (λ v. slice_get (row_at slots' v).shapes i) (sym z) ∙ f)).bare;
        })
        (λ n.
        let h = r.held y (used_was q even few keys bound k x w ready kd slots' long' same own keys' here others y n u) (sym (ap (λ v. v.live) (same y n)) ∙ e) in
        record { out = h.out; bare = λ i a f. h.bare i a (sym (ap (λ v. slice_get v.shapes i) (same y n)) ∙ f) })
        (cases_eq y k);
    covers = λ y l. let v = live_was q even few keys bound k x w ready kd slots' long' same own keys' here others y l in ap (λ z. has_id z.head.id t) (same y v.0) ∙ r.covers y v.1;
  }

  -- the operation is held, and has no removed keys
  pub fill_holds : (m : finmap.FinMap nat_cmp Op) → ((y : ℕ) → finmap.get m y ≡ held_in q.slots (keys y)) → (y : ℕ) → finmap.get (finmap.insert m x (bare w)) y ≡ held_in slots' (keys' y)
  fill_holds m h y = finmap.get-insert nat_cmp_total m x (bare w) y ∙ ap (λ b. cond b (Some (bare w)) (finmap.get m y)) (eq_nat y x) ∙ ⊎_elim
      (λ e. cond-true (eqb y x) (Some (bare w)) (finmap.get m y) (eq-eqb y x e) ∙ sym (ap (held_in slots') (ap keys' e ∙ here) ∙ ap (λ z. if z.live then None else Some (bare z)) own ∙ ap (λ b. if b then None else Some (bare w)) ready.live))
      (λ n. cond-false (eqb y x) (Some (bare w)) (finmap.get m y) (ne_eqb y x n) ∙ h y ∙ go y (keys y) refl ∙ ap (held_in slots') (sym (others y n)))
      (cases_eq y x)
    where
      go : (y : ℕ) (o : Option ℕ) → keys y ≡ o → held_in q.slots o ≡ held_in slots' o
      go y None e = refl
      go y (Some j) e = ap (λ z. if z.live then None else Some (bare z)) (sym (same j (used_not q even few keys bound k x w ready kd slots' long' same own keys' here others j (r.known y j e).used)))

  pub fill_gone : (m : finmap.FinMap nat_cmp Gone) → ((y : ℕ) → finmap.get m y ≡ gone_in q.slots (keys y)) → (y : ℕ) → finmap.get (finmap.insert m x w.gone) y ≡ gone_in slots' (keys' y)
  fill_gone m h y = finmap.get-insert nat_cmp_total m x w.gone y ∙ ap (λ b. cond b (Some w.gone) (finmap.get m y)) (eq_nat y x) ∙ ⊎_elim
      (λ e. cond-true (eqb y x) (Some w.gone) (finmap.get m y) (eq-eqb y x e) ∙ sym (ap (gone_in slots') (ap keys' e ∙ here) ∙ ap (λ z. Some z.gone) own))
      (λ n. cond-false (eqb y x) (Some w.gone) (finmap.get m y) (ne_eqb y x n) ∙ h y ∙ go y (keys y) refl ∙ ap (gone_in slots') (sym (others y n)))
      (cases_eq y x)
    where
      go : (y : ℕ) (o : Option ℕ) → keys y ≡ o → gone_in q.slots o ≡ gone_in slots' o
      go y None e = refl
      go y (Some j) e = ap (λ z. Some z.gone) (sym (same j (used_not q even few keys bound k x w ready kd slots' long' same own keys' here others j (r.known y j e).used)))
