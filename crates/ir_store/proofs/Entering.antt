-- How the slots change when one operation's dictionary is edited.
use Rattle.std.proofs.Common.{◌≡◌, ℕ, ◌<◌, List, refl, sym, ap, ◌∙◌, subst, length, cond, true, eqb, ⊎_elim, Option, Some, None, slice_get}
use Rattle.std.specs.FinMap as finmap
use Rattle.std.specs.Ordering.{nat_cmp}
use Rattle.std.specs.Cmp.{nat_cmp_total}
use Rattle.std.proofs.lemmas.Bool.{cases_eq, eq-eqb, ne_eqb, cond-true, cond-false, cond_both}
use Rattle.ir_store_reads.specs.Lists.{Lists}
use Rattle.ir_store_reads.specs.trees.Tree.{Head, Op}
use Rattle.ir_store_reads.specs.trees.Frames.{owner_of}
use Rattle.ir_store_reads.specs.trees.Ids.{has_id, op_count}
use Rattle.ir_store_reads.specs.trees.Edits.{each_head, at}
use Rattle.ir_store_reads.specs.Stored.{Gone}
use Rattle.ir_store.specs.Calls.{change_gone_of}
use Rattle.ir_store_reads.specs.Rows.{Row, row_at, held_in, gone_in}
use Rattle.ir_store_reads.specs.Spells.{SpellsOp}
use Rattle.ir_store_reads.specs.Right.{Live, Used, Right}
use Rattle.ir_store_reads.specs.Index.{Index, HasIdsBelow, HasOwners, lives}
use Rattle.ir_store.proofs.Distinct.{each_ids}
use Rattle.ir_store.proofs.Tally.{live_stays}
use Rattle.ir_store_reads.proofs.Mapped.{map_spells}
use Rattle.ir_store_reads.proofs.Founds.{has_is}
use Rattle.ir_store_reads.proofs.SlotLaws.{Found, only}
use Rattle.ir_store.proofs.Steps.{row_step}
use Rattle.ir_store_reads.proofs.Items.{eq_nat}
use Rattle.ir_store.proofs.Writing.{has_each}

-- a change of a head that keeps its id, name, operands and results
pub record Inner (f : Head → Head) : Type 0 where
  pub id : (h : Head) → (f h).id ≡ h.id
  pub operands : (h : Head) → (f h).operands ≡ h.operands
  pub results : (h : Head) → (f h).results ≡ h.results

-- a row with the change, and with its removed keys changed
abbrev pub retold : (Head → Head) → (Gone → Gone) → Row → Row
retold f g r = record r { head = f r.head; gone = g r.gone }

pub same_at : (x : ℕ) (f : Head → Head) → Inner f → (h : Head) → (at x f h).id ≡ h.id
same_at x f inner h = cond_both (eqb h.id x) (f h) h (λ z. z.id ≡ h.id) (λ _. inner.id h) (λ _. refl)

module _ (slots : List Row) (keys : ℕ → Option ℕ) (sibs : Lists) (root : ℕ) (t : Op) (r : Right slots keys sibs root t) (s : SpellsOp slots sibs.lists root t)
    (x k : ℕ) (fd : Found slots x k) (f : Head → Head) (g : Gone → Gone) (inner : Inner f) (slots' : List Row) (long' : length slots' ≡ length slots)
    (same : (q : ℕ) → (q ≡ k → ⊥) → row_at slots' q ≡ row_at slots q) (own : row_at slots' k ≡ retold f g (row_at slots k)) where
  alone : (q : ℕ) → Live slots q → (row_at slots q).head.id ≡ x → q ≡ k
  alone = only slots keys sibs root t r s x k fd.live fd.id

  kept : {A : Type 0} (p : Row → A) → p (retold f g (row_at slots k)) ≡ p (row_at slots k) → (q : ℕ) → p (row_at slots' q) ≡ p (row_at slots q)
  kept p e q = ⊎_elim
      (λ z. ap (λ w. p (row_at slots' w)) z ∙ ap p own ∙ e ∙ ap (λ w. p (row_at slots w)) (sym z))
      (λ n. ap p (same q n)) (cases_eq q k)

  live_is : (q : ℕ) → (row_at slots' q).live ≡ (row_at slots q).live
  live_is = kept (λ z. z.live) refl

  id_is : (q : ℕ) → (row_at slots' q).head.id ≡ (row_at slots q).head.id
  id_is = kept (λ z. z.head.id) (inner.id (row_at slots k).head)

  shapes_are : (q : ℕ) → (row_at slots' q).shapes ≡ (row_at slots q).shapes
  shapes_are = kept (λ z. z.shapes) refl

  operands_are : (q : ℕ) → (row_at slots' q).head.operands ≡ (row_at slots q).head.operands
  operands_are = kept (λ z. z.head.operands) (inner.operands (row_at slots k).head)

  used_to : (q : ℕ) → Used slots q → Used slots' q
  used_to q u = record { used = kept (λ z. z.used) refl q ∙ u.used }

  used_from : (q : ℕ) → Used slots' q → Used slots q
  used_from q u = record { used = sym (kept (λ z. z.used) refl q) ∙ u.used }

  was : (q : ℕ) → Live slots' q → Live slots q
  was q l = record { live = sym (live_is q) ∙ l.live }

  pub retold_spells : SpellsOp slots' sibs.lists root (each_head (at x f) t)
  retold_spells = map_spells slots slots' (at x f) sibs.lists
      (λ q l. record {
        live = live_is q ∙ l.live;
        shapes = shapes_are q;
        head = ⊎_elim
            (λ e. subst (λ z. (row_at slots' z).head ≡ at x f (row_at slots z).head) (sym e)
            (ap (λ z. z.head) own ∙ sym (cond-true (eqb (row_at slots k).head.id x) (f (row_at slots k).head) (row_at slots k).head (eq-eqb (row_at slots k).head.id x fd.id))))
            (λ n. ap (λ z. z.head) (same q n) ∙ sym (cond-false (eqb (row_at slots q).head.id x) (f (row_at slots q).head) (row_at slots q).head (ne_eqb (row_at slots q).head.id x (λ z. n (alone q l z)))))
            (cases_eq q k);
      }) root t s

  pub retold_right : Right slots' keys sibs root (each_head (at x f) t)
  retold_right = record {
    few = r.few;
    long = long' ∙ r.long;
    live_used = λ q l. used_to q (r.live_used q (was q l));
    keyed = λ q u. ap keys (id_is q) ∙ r.keyed q (used_from q u);
    known = λ y q e. let old = r.known y q e in record { used = used_to q old.used; id = id_is q ∙ old.id };
    top = r.top;
    blocks = λ q i a u e.
        let old = r.blocks q i a (used_from q u) (sym (ap (λ z. slice_get z i) (shapes_are q)) ∙ e) in
        record { head = old.head; owner = kept (λ z. z.owner) refl a.1 ∙ old.owner; region = kept (λ z. z.region) refl a.1 ∙ old.region };
    items = λ q l ne. r.items q (was q l) ne;
    held = λ q u d.
        let old = r.held q (used_from q u) (sym (live_is q) ∙ d) in
        record { out = old.out; bare = λ i a e. old.bare i a (sym (ap (λ z. slice_get z i) (shapes_are q)) ∙ e) };
    covers = λ q l.
        ap (λ z. has_id z (each_head (at x f) t)) (id_is q)
        ∙ sym (has_is (row_at slots q).head.id (each_head (at x f) t)) ∙ has_each (at x f) (same_at x f inner) (row_at slots q).head.id t ∙ has_is (row_at slots q).head.id t ∙ r.covers q (was q l);
  }

  pub retold_holds : (y : ℕ) → held_in slots (keys y) ≡ held_in slots' (keys y)
  retold_holds y = go (keys y)
    where
      go : (o : Option ℕ) → held_in slots o ≡ held_in slots' o
      go None = refl
      go (Some q) = ⊎_elim
          (λ e. let l : (row_at slots q).live ≡ true = ap (λ z. (row_at slots z).live) e ∙ fd.live.live in let l' : (row_at slots' q).live ≡ true = live_is q ∙ l in rw (l, l') refl)
          (λ n. rw (same q n) refl) (cases_eq q k)

  at_key : keys x ≡ Some k
  at_key = ap keys (sym fd.id) ∙ r.keyed k (r.live_used k fd.live)

  pub retold_gone : (m : finmap.FinMap nat_cmp Gone) → ((y : ℕ) → finmap.get m y ≡ gone_in slots (keys y)) → (y : ℕ) → finmap.get (change_gone_of x g (finmap.get m x) m) y ≡ gone_in slots' (keys y)
  retold_gone m h y =
      let own_gone : finmap.get m x ≡ Some (row_at slots k).gone = h x ∙ ap (gone_in slots) at_key in
      let new_gone : Gone = g (row_at slots k).gone in
      ap (λ z. finmap.get (change_gone_of x g z m) y) own_gone ∙ finmap.get-insert nat_cmp_total m x new_gone y ∙ ap (λ b. cond b (Some new_gone) (finmap.get m y)) (eq_nat y x) ∙ ⊎_elim
      (λ e. cond-true (eqb y x) (Some new_gone) (finmap.get m y) (eq-eqb y x e) ∙ ap Some (sym (ap (λ z. z.gone) own)) ∙ ap (gone_in slots') (sym (ap keys e ∙ at_key)))
      (λ n. cond-false (eqb y x) (Some new_gone) (finmap.get m y) (ne_eqb y x n) ∙ h y ∙ others y n (keys y) refl)
      (cases_eq y x)
    where
      others : (y : ℕ) → (y ≡ x → ⊥) → (o : Option ℕ) → keys y ≡ o → gone_in slots o ≡ gone_in slots' o
      others y n None e = refl
      others y n (Some q) e = ap Some (sym (ap (λ z. z.gone) (same q (λ z. n (sym (r.known y q e).id ∙ ap (λ w. (row_at slots w).head.id) z ∙ fd.id)))))

  pub retold_index : (homes : List ℕ) (cells : List (ℕ × ℕ)) → Index slots keys homes cells (lives slots) → Index slots' keys homes cells (lives slots')
  retold_index homes cells ix = row_step slots slots'
      (record {
        results = kept (λ z. z.head.results) (inner.results (row_at slots k).head);
        shapes = shapes_are;
        values = kept (λ z. z.values) refl;
        uses = kept (λ z. z.uses) refl;
        used = kept (λ z. z.used) refl;
      })
      keys homes cells (lives slots) (lives slots') ix
      (λ q i w e. (w, sym (ap (λ z. slice_get z i) (operands_are q)) ∙ e))
      (λ q i w u e o. ap (λ z. slice_get z i) (operands_are q) ∙ e)
      (λ q i w u e. live_is q)

  pub retold_below : (n : ℕ) → HasIdsBelow n slots → HasIdsBelow n slots'
  retold_below n b q l = subst (λ z. z < n) (sym (id_is q)) (b q (was q l))

  pub retold_owned : HasOwners slots keys → HasOwners slots' keys
  retold_owned h q i w l e =
      live_stays slots slots' keys keys (owner_of w).0 (λ p g lp. (g, record { live = live_is p ∙ lp.live }))
      (h q i w (was q l) (sym (ap (λ z. slice_get z i) (operands_are q)) ∙ e))

  pub retold_counted : op_count t ≡ op_count (each_head (at x f) t)
  retold_counted = ap length (sym (each_ids (at x f) (same_at x f inner) t))
