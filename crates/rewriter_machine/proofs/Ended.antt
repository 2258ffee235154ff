-- Journals with one more event, and the stores before their events.
use Rattle.std.proofs.Common.{◌≡◌, refl, ap, sym, ◌∙◌, subst, ℕ, zero, suc, ◌≤◌, List, [], ◌∷◌, ◌++◌, drop, arith}
use Rattle.ir_event.specs.types.Things.{ContextModel}
use Rattle.ir_event.specs.store.Stored.{Stored}
use Rattle.ir_event.specs.declared.event.Event.{Event}
use Rattle.ir_event.specs.Modules.{Module, module_meaning}
use Rattle.ir_event.specs.Step.{Step, Steps, inverse_of}
use Rattle.ir_event.specs.Undoing.{CameFrom, undone}
use Rattle.ir_event.proofs.Undoing.{led_back, undone_step}
use Rattle.rewriter_machine.specs.Journals.{IsForward, IsJournal, IsStoreOf, Noted, before, inverses, undone_all}
use Rattle.rewriter_machine.proofs.Carries.{Carries}
use Rattle.rewriter_machine.proofs.Undoings.{came_too, carries_undone, falls, same_module, store_undone}

module _ (c : ContextModel) where
  -- the newest event is undone first
  pub undone_last : (es : List Event) (e : Event) (s : Stored) → undone_all c (es ++ e ∷ []) s ≡ undone_all c es (undone c e s)
  undone_last [] e s = refl
  undone_last (f ∷ es) e s = ap (undone c f) (undone_last es e s)

  pub before_last : (es : List Event) (e : Event) (s : Stored) → before c (es ++ e ∷ []) s ≡ before c es (undone c e s)
  before_last es e s = ap (λ (u : Stored). module_meaning c u.module_of) (undone_last es e s)

  -- the last event of a journal
  pub journal_last : (es : List Event) (e : Event) (s : Stored) → IsJournal c (es ++ e ∷ []) s → IsJournal c es (undone c e s) × (IsForward e × CameFrom c e (module_meaning c (undone c e s).module_of) s)
  journal_last [] e s h = (tt, h.1)
  journal_last (f ∷ es) e s h =
      let r = journal_last es e s h.0 in
      ((r.0, (h.1.0, subst (λ (u : Stored). CameFrom c f (module_meaning c (undone c f u).module_of) u) (undone_last es e s) h.1.1)), r.1)

  pub journal_more : (es : List Event) (e : Event) (s : Stored) → IsJournal c es (undone c e s) → IsForward e → CameFrom c e (module_meaning c (undone c e s).module_of) s → IsJournal c (es ++ e ∷ []) s
  journal_more [] e s h forward f = (tt, (forward, f))
  journal_more (g ∷ es) e s h forward f =
      (journal_more es e s h.0 forward f, (h.1.0, subst (λ (u : Stored). CameFrom c g (module_meaning c (undone c g u).module_of) u) (sym (undone_last es e s)) h.1.1))

  -- the store before the newer events
  pub undone_both : (es fs : List Event) (s : Stored) → undone_all c (es ++ fs) s ≡ undone_all c es (undone_all c fs s)
  undone_both [] fs s = refl
  undone_both (e ∷ es) fs s = ap (undone c e) (undone_both es fs s)

  -- the older events are a journal of that store
  pub journal_older : (es fs : List Event) (s : Stored) → IsJournal c (es ++ fs) s → IsJournal c es (undone_all c fs s)
  journal_older [] fs s h = tt
  journal_older (e ∷ es) fs s h = (journal_older es fs s h.0, (h.1.0, subst (λ (u : Stored). CameFrom c e (module_meaning c (undone c e u).module_of) u) (undone_both es fs s) h.1.1))

  -- the newer events of a journal are a journal
  pub journal_drop : (k : ℕ) (es : List Event) (s : Stored) → IsJournal c es s → IsJournal c (drop k es) s
  journal_drop zero es s h = h
  journal_drop (suc k) [] s h = h
  journal_drop (suc k) (e ∷ es) s h = journal_drop k es s h.0

  -- the store before a journal
  pub store_after : (es : List Event) (s : Stored) → IsStoreOf c s → IsJournal c es s → IsStoreOf c (undone_all c es s)
  store_after [] s w h = w
  store_after (e ∷ es) s w h = store_undone c e (before c (e ∷ es) s) (undone_all c es s) (store_after es s w h.0) h.1.1

  pub next_after : (es : List Event) (s : Stored) → IsJournal c es s → (undone_all c es s).module_of.next ≤ s.module_of.next
  next_after [] s h = omega arith
  next_after (e ∷ es) s h = (let a = next_after es s h.0 in let b = falls c e (before c (e ∷ es) s) (undone_all c es s) h.1.0 h.1.1 in omega (arith, a, b))

  -- a journal is also a journal of a store that carries everything that undoing needs
  module _ (n : ℕ) (s u : Stored) (w : IsStoreOf c s) (v : IsStoreOf c u) (most : s.module_of.next ≤ n) (r : Carries n s u) where
    -- both at once
    carried : (es : List Event) → IsJournal c es s → IsJournal c es u × Carries n (undone_all c es s) (undone_all c es u)
    carried [] h = (tt, r)
    carried (e ∷ es) h =
        let b = carried es h.0 in
        let w' = store_after es s w h.0 in
        let v' = store_after es u v b.0 in
        let m = next_after es s h.0 in
        let most' : (undone_all c es s).module_of.next ≤ n = omega (arith, m, most) in
        ((b.0, (h.1.0, came_too c n (undone_all c es s) (undone_all c es u) w' v' most' b.1 e h.1.0 h.1.1)), carries_undone c n (undone_all c es s) (undone_all c es u) w' v' most' b.1 e h.1.0 h.1.1)

    pub journal_carried : (es : List Event) → IsJournal c es s → IsJournal c es u
    journal_carried es h = (carried es h).0

    pub before_carried : (es : List Event) → IsJournal c es s → before c es u ≡ before c es s
    before_carried es h = ap (module_meaning c) ((carried es h).1.module_of)

  -- the events of a journal are steps
  steps_more : (es : List Event) (e : Event) (m n p : Module) → Steps c es m n → Step c e n p → Steps c (es ++ e ∷ []) m p
  steps_more [] e m n p h k = (p, subst (λ z. Step c e z p) h k, refl)
  steps_more (f ∷ es) e m n p h k = (h.0, h.1, steps_more es e h.0 n p h.2 k)

  pub journal_steps : (es : List Event) (s : Stored) → IsJournal c es s → Steps c es (before c es s) (module_meaning c s.module_of)
  journal_steps [] s h = refl
  journal_steps (e ∷ es) s h = (before c es s, h.1.1.step, journal_steps es s h.0)

  pub journal_back : (es : List Event) (s : Stored) → IsJournal c es s → Steps c (inverses es) (module_meaning c s.module_of) (before c es s)
  journal_back [] s h = refl
  journal_back (e ∷ es) s h =
      steps_more (inverses es) (inverse_of e) (module_meaning c s.module_of) (before c es s) (before c (e ∷ es) s) (journal_back es s h.0) (undone_step c (undone_all c es s) e (before c (e ∷ es) s) h.1.1)

  -- an event is recorded if undoing it gives a store that carries the previous one
  pub noted : (es : List Event) (e : Event) (s u : Stored) → IsStoreOf c s → IsStoreOf c (undone c e u) → IsJournal c es s → IsForward e → CameFrom c e (module_meaning c (undone c e u).module_of) u → Carries s.module_of.next s (undone c e u) → Noted c es e s u
  noted es e s u w v h forward f r = record {
    journal = journal_more es e u (journal_carried s.module_of.next s (undone c e u) w v (omega arith) r es h) forward f;
    modules = λ k le. before_last (drop k es) e u ∙ before_carried s.module_of.next s (undone c e u) w v (omega arith) r (drop k es) (journal_drop k es s h);
  }

  pub noted_from : (es : List Event) (e : Event) (s u : Stored) → IsStoreOf c s → IsStoreOf c u → IsJournal c es s → IsForward e → CameFrom c e (module_meaning c s.module_of) u
      → ((undone c e u).module_of ≡ s.module_of → Carries s.module_of.next s (undone c e u)) → Noted c es e s u
  noted_from es e s u w v h forward f r =
      let back = led_back c u e (module_meaning c s.module_of) f in
      let z = store_undone c e (module_meaning c s.module_of) u v f in
      noted es e s u w z h forward (subst (λ p. CameFrom c e p u) (sym back) f) (r (same_module c s (undone c e u) w z back))

-- the inverse of the last event comes first
pub inverses_last : (es : List Event) (e : Event) → inverses (es ++ e ∷ []) ≡ inverse_of e ∷ inverses es
inverses_last [] e = refl
inverses_last (f ∷ es) e = ap (λ l. l ++ inverse_of f ∷ []) (inverses_last es e)
