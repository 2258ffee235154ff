-- Journals after held operations are released.
use Rattle.std.proofs.Common.{◌≡◌, refl, ap, sym, ◌∙◌, subst, ℕ, ◌<◌, ◌≤◌, true, false, true≢false, cond, eqb, ⊎_elim, List, Option, Some, None, arith}
use Rattle.std.proofs.lemmas.Bool.{cases_Bool, cond-false, cond-true, le-ltb, lt-ltb, ne_eqb}
use Rattle.std.specs.Prelude.{nat_lt, is_some}
use Rattle.std.specs.FinMap as finmap
use Rattle.ir_event.specs.types.Things.{ContextModel}
use Rattle.ir_event.specs.trees.Tree.{Op}
use Rattle.ir_event.specs.trees.Ids.{find, first_of, has_id}
use Rattle.ir_event.specs.trees.Meaning.{IsSoundIn, isolated_in}
use Rattle.ir_event.specs.trees.WellFormed.{IsWellFormed, Module as Numbered}
use Rattle.ir_event.proofs.of_tree_laws.Around.{absent_find}
use Rattle.ir_event.specs.store.Stored.{Gone, Stored}
use Rattle.ir_event.specs.store.Calls.{Releases, gone_left}
use Rattle.ir_event.specs.declared.event.Event.{Event}
use Rattle.rewriter_machine.specs.Journals.{IsJournal, TracksRemovedKeys, IsStoreOf, HasNoStaleIds, before}
use Rattle.rewriter_machine.proofs.Carries.{Carries, carries_same, known_both}
use Rattle.rewriter_machine.proofs.Ended.{before_carried, journal_carried}

left_some : (from : ℕ) (q : Option Gone) → is_some (gone_left from q) ≡ is_some q
left_some from None = refl
left_some from (Some g) = refl

left_same : (from : ℕ) (q : Option Gone) → 1 ≤ from → gone_left from q ≡ q
left_same from None le = refl
left_same from (Some g) le = ap Some (cond-false (eqb from 0) _ g (ne_eqb from 0 (λ e. omega (arith, le, e))))

module _ (from : ℕ) (s u : Stored) (r : Releases from s u) where
  held_is : (y : ℕ) → finmap.get u.held y ≡ cond (nat_lt y from) (finmap.get s.held y) None
  held_is y = ap (λ m. finmap.get m y) r.held ∙ finmap.get-retain_keys s.held (λ x. nat_lt x from) y (λ x e. ap (λ z. nat_lt z from) (sym (finmap.nat_cmp-IsAntisymmetric y x e)))

  held_below : (y : ℕ) → y < from → finmap.get u.held y ≡ finmap.get s.held y
  held_below y lt = held_is y ∙ cond-true (nat_lt y from) (finmap.get s.held y) None (lt-ltb y from lt)

  held_was : (y : ℕ) (o : Op) → finmap.get u.held y ≡ Some o → (nat_lt y from ≡ true) × (finmap.get s.held y ≡ Some o)
  held_was y o e = ⊎_elim
      (λ k. (k, sym (held_is y ∙ cond-true (nat_lt y from) (finmap.get s.held y) None k) ∙ e))
      (λ n. (let bad : None ≡ Some o = sym (held_is y ∙ cond-false (nat_lt y from) (finmap.get s.held y) None n) ∙ e in absurd cc))
      (cases_Bool (nat_lt y from))

  gone_below : 1 ≤ from → (y : ℕ) → y < from → finmap.get u.gone y ≡ finmap.get s.gone y
  gone_below le y lt = r.gone y ∙ ⊎_elim
      (λ k. cond-true (has_id y s.module_of.tree) (gone_left from (finmap.get s.gone y)) _ k ∙ left_same from (finmap.get s.gone y) le)
      (λ n. cond-false (has_id y s.module_of.tree) (gone_left from (finmap.get s.gone y)) _ n ∙ cond-true (nat_lt y from) (finmap.get s.gone y) None (lt-ltb y from lt))
      (cases_Bool (has_id y s.module_of.tree))

  pub carries_released : 1 ≤ from → Carries from s u
  carries_released le = carries_same from s u r.module_of (λ y lt k. held_below y lt) (gone_below le)

  pub store_released : (c : ContextModel) → IsStoreOf c s → IsStoreOf c u
  store_released c w = record {
    context = w.context;
    sound = subst (λ (m : Numbered). IsSoundIn c m.tree) (sym r.module_of) w.sound;
    wellformed = subst (IsWellFormed (isolated_in c)) (sym r.module_of) w.wellformed;
    held = λ x o e. w.held x o (held_was x o e).1;
  }

  pub tidy_released : from ≤ s.module_of.next → HasNoStaleIds u
  tidy_released le y more = held_is y ∙ cond-false (nat_lt y from) (finmap.get s.held y) None (le-ltb y from (let e = ap (λ (m : Numbered). m.next) r.module_of in omega (arith, le, more, e)))

  pub slotted_released : TracksRemovedKeys s → TracksRemovedKeys u
  slotted_released h x k = ap is_some (r.gone x) ∙ ⊎_elim
      (λ i. ap is_some (cond-true (has_id x s.module_of.tree) (gone_left from (finmap.get s.gone x)) _ i) ∙ left_some from (finmap.get s.gone x) ∙ h x (sym (ap is_some (known_both x s u r.module_of i)) ∙ k))
      (λ n. go n (finmap.get u.held x) refl)
      (cases_Bool (has_id x s.module_of.tree))
    where
      go : has_id x s.module_of.tree ≡ false → (q : Option Op) → finmap.get u.held x ≡ q → is_some (cond (has_id x s.module_of.tree) (gone_left from (finmap.get s.gone x)) (cond (nat_lt x from) (finmap.get s.gone x) None)) ≡ true
      go n None e =
          absurd (true≢false (sym k ∙ ap is_some ((λ i. first_of (find x (r.module_of i).tree) (e i)) ∙ ap (λ q. first_of q None) (absent_find x s.module_of.tree n))))
      go n (Some o) e =
          let was = held_was x o e in
          ap is_some (cond-false (has_id x s.module_of.tree) (gone_left from (finmap.get s.gone x)) _ n ∙ cond-true (nat_lt x from) (finmap.get s.gone x) None was.0)
          ∙ h x (ap is_some ((λ i. first_of (absent_find x s.module_of.tree n i) (was.1 i))))

  module _ (c : ContextModel) (w : IsStoreOf c s) (most : s.module_of.next ≤ from) (le : 1 ≤ from) (es : List Event) (h : IsJournal c es s) where
    pub journal_released : IsJournal c es u
    journal_released = journal_carried c from s u w (store_released c w) most (carries_released le) es h

    pub before_released : before c es u ≡ before c es s
    before_released = before_carried c from s u w (store_released c w) most (carries_released le) es h
