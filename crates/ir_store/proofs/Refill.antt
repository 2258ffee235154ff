-- A free slot is used again.
use Rattle.std.proofs.Common.{◌≡◌, ◌⊎◌, ℕ, ◌+◌, ◌<◌, refl, sym, ap, ◌∙◌, subst, length, Bool, true, false, ⊎_elim, inl, inr, arith, Option, Some, None, slice_get}
use Rattle.std.specs.Prelude.{option_and_then, nat_lt, if◌then◌else◌}
use Rattle.std.proofs.lemmas.Bool.{cases_Bool, cases_eq, false≢true, ltb-true}
use Rattle.std.proofs.lemmas.Bool.Decides.{nat_tests}
use Rattle.ir_store_reads.specs.Lists.{IsHead, home_at, free}
use Rattle.ir_store_reads.specs.trees.declared.value.Value.{Value}
use Rattle.ir_store_reads.specs.trees.declared.value.Value.TheVariants.{Result, Arg}
use Rattle.ir_store_reads.specs.trees.Frames.{owner_of}
use Rattle.ir_store_reads.specs.trees.Tree.{Op}
use Rattle.ir_store_reads.specs.Rows.{Row, RegionShape, row_at}
use Rattle.ir_store_reads.specs.Right.{Used, Right}
use Rattle.ir_store_reads.specs.Index.{argument_head, slot_head, value_head, cell_at, Celled}
use Rattle.ir_store_reads.specs.Grows.{Parts, Ready}
use Rattle.ir_store.proofs.Fill.{Named, IsApart}
use Rattle.ir_store_reads.proofs.of_trees.of_types.Truths.{if_some}

-- the cell of a list head names its owner, so the heads of a free slot belong to no other slot
module _ (q : Parts) (keys : ℕ → Option ℕ) (root : ℕ) (t : Op) (r : Right q.slots keys q.sibs root t) (c : Celled q.slots q.cells) (bound k x : ℕ) (w : Row) (ready : Ready q keys bound k x w) where
  -- the slot of an operation isn't a head
  used_no_head : (y : ℕ) → Used q.slots y → IsHead q.sibs.homes y → ⊥
  used_no_head y u h = ⊎_elim
      (λ l. ⊎_elim
      (λ e. let f : y ≡ free = sym h.own ∙ ap (home_at q.sibs.homes) e ∙ r.top.unlinked in let i = h.inside in omega (arith, f, i, r.few))
      (λ n. (r.items y (record { live = l }) n).item.other h.own)
      (cases_eq y root))
      (λ l. let f : y ≡ free = sym h.own ∙ (r.held y u l).out.unlinked in let i = h.inside in omega (arith, f, i, r.few))
      (cases_Bool (row_at q.slots y).live)

  used_not_spare : (y : ℕ) → Used q.slots y → y ≡ k → ⊥
  used_not_spare y u e = false≢true (sym ready.spare.used ∙ ap (λ z. (row_at q.slots z).used) (sym e) ∙ u.used)

  spare_no_head : (h : ℕ) → IsHead q.sibs.homes h → h ≡ k → ⊥
  spare_no_head h p e =
      let f : h ≡ free = sym p.own ∙ ap (home_at q.sibs.homes) e ∙ ready.out.unlinked in
      let i = p.inside in
      omega (arith, f, i, r.few)

  -- slot k, or a block head that slot k owns
  abbrev Ours : ℕ → Type 0
  Ours s = (s ≡ k) ⊎ ((IsHead q.sibs.homes s) × ((row_at q.slots s).owner ≡ k))

  -- the slot of an operation, or a block head that it owns
  abbrev Theirs : ℕ → Type 0
  Theirs s = (y : ℕ) × (Used q.slots y × ((s ≡ y) ⊎ ((IsHead q.sibs.homes s) × ((row_at q.slots s).owner ≡ y))))

  ours : (v : Value) (h : ℕ) → Named q bound k w v h → Ours (cell_at q.cells h).0
  ours (Result y i) h n = inl (ap (λ z. z.0) n.cell)
  ours (Arg y j i) h n =
      let b = ready.blocks j n.0 n.1.0 in
      let e : (cell_at q.cells h).0 ≡ n.0.1 = ap (λ z. z.0) n.1.1.cell in
      inr (subst (IsHead q.sibs.homes) (sym e) b.head, ap (λ z. (row_at q.slots z).owner) e ∙ b.owner)

  theirs : (v : Value) (h : ℕ) → value_head q.slots keys v ≡ Some h → Theirs (cell_at q.cells h).0
  theirs v h e = go (keys (owner_of v).0) refl e
    where
      at : (v : Value) (y : ℕ) → Used q.slots y → slot_head q.slots v y ≡ Some h → Theirs (cell_at q.cells h).0
      at (Result z i) y u f =
          let g = if_some (nat_lt i (length (row_at q.slots y).head.results)) ((row_at q.slots y).values + i) h f in
          (y, (u, inl (ap (λ b. (cell_at q.cells b).0) (sym g.1) ∙ ap (λ b. b.0) (c.results y i u (ltb-true i (length (row_at q.slots y).head.results) g.0)))))
      at (Arg z j i) y u f = shaped_as (slice_get (row_at q.slots y).shapes j) refl f
        where
          shaped_as : (o : Option RegionShape) → slice_get (row_at q.slots y).shapes j ≡ o → option_and_then (argument_head q.slots i) o ≡ Some h → Theirs (cell_at q.cells h).0
          shaped_as None m n = absurd cc
          shaped_as (Some None) m n = absurd cc
          shaped_as (Some (Some a)) m n =
              let g = if_some (nat_lt i (length a.0)) ((row_at q.slots a.1).values + i) h n in
              let b = r.blocks y j a u m in
              let s : (cell_at q.cells h).0 ≡ a.1 = ap (λ b. (cell_at q.cells b).0) (sym g.1) ∙ ap (λ b. b.0) (c.arguments y j i a u m (ltb-true i (length a.0) g.0)) in
              (y, (u, inr (subst (IsHead q.sibs.homes) (sym s) b.head, ap (λ z. (row_at q.slots z).owner) s ∙ b.owner)))

      go : (o : Option ℕ) → keys (owner_of v).0 ≡ o → option_and_then (slot_head q.slots v) o ≡ Some h → Theirs (cell_at q.cells h).0
      go None f g = absurd cc
      go (Some y) f g = at v y (r.known (owner_of v).0 y f).used g

  not_both : (s : ℕ) → Ours s → Theirs s → ⊥
  not_both s a b = ⊎_elim
      (λ e. ⊎_elim
      (λ f. used_not_spare b.0 b.1.0 (sym f ∙ e))
      (λ f. spare_no_head s f.0 e)
      b.1.1)
      (λ e. ⊎_elim
      (λ f. used_no_head b.0 b.1.0 (subst (IsHead q.sibs.homes) f e.0))
      (λ f. used_not_spare b.0 b.1.0 (sym f.1 ∙ e.1))
      b.1.1)
      a

  pub cells_apart : IsApart q keys bound k w
  cells_apart u v h n e = not_both (cell_at q.cells h).0 (ours u h n) (theirs v h e)
