-- A run of the driver is the transformation that the state machine defines for a canonicalization or for a rewriting
-- by a pattern set.
use Rattle.std.proofs.Common.{◌≡◌, refl, ap, sym, ◌∙◌, inl, inr, ℕ, true, false, cond, [], Result, Ok, Err}
use Rattle.std.specs.Prelude.{IfOk, IfErr, OnErr}
use Rattle.ir_event.specs.types.declared.refusal.Refusal.{Refusal}
use Rattle.ir_event.specs.types.declared.refusal.Refusal.TheVariants.{BadLimit, Full, Memory}
use Rattle.std.proofs.lemmas.Bool.{cases_Bool}
use Rattle.ir_event.specs.Listener.{Listener}
use Rattle.ir_event.specs.Modules.{Module}
use Rattle.rewriter_machine.specs.Machine.{State, Answer, Change, Reply, DoneWith, Refused, Nothing, Transformation, due, due_change, IsAnswer, IsFullSo}
use Rattle.rewriter_machine.specs.Panels.{AllAge}
use Rattle.patterns.specs.rewriter.RewriterCalls.{Benched, Does, Led, state_of}
use Rattle.patterns.specs.rewriter.Held.{module_held, open_marks}
use Rattle.patterns.proofs.Notified.{notified_stays}
use Rattle.patterns_base.specs.Canonicalization.{Canonical, ended, aborted, greedy_rules}
use Rattle.greedy.specs.declared.outcome.Outcome.{Outcome as Ended}
use Rattle.greedy.specs.declared.outcome.Outcome.TheVariants.{Converged, Limit}
use Rattle.greedy.specs.Outcomes.{count_of, ending_of, is_limit, IsReasonBy, IsReasonFor, IsRewriting}
use Rattle.greedy.specs.Changes.{outcome_of, made_of, canonicalizing, outcome_meaning, canonical_reply, rewriting}
use Rattle.greedy.specs.Rewriting.{rewriting_of, rewritten_from}
use Rattle.greedy.specs.PatternSet.{PatternSetModel, by_rules}
use Rattle.greedy.proofs.SameRules.{same_rewriting}

outcomes : (o : Ended) → outcome_of (count_of o) (ending_of o) ≡ outcome_meaning o
outcomes (Converged k) = refl
outcomes (Limit k) = refl

no_limit_by : (pattern_set : PatternSetModel) (limit : ℕ) (m : Module) → is_limit limit ≡ false → rewriting_of pattern_set limit m ≡ aborted BadLimit
unfolding rewriting_of
no_limit_by pattern_set limit m e = ap (λ b. cond b (rewritten_from pattern_set limit 0 m) (aborted BadLimit)) e

-- runs whose result a definition gives
module _ (made : Module → Canonical) (limit : ℕ) (bad : (m : Module) → is_limit limit ≡ false → made m ≡ aborted BadLimit) where
  abbrev change : Transformation
  change = record { transformed = λ m. made_of (made m); interns = true }

  module _ (s t : State) (marks : t.marks ≡ s.marks) where
    abbrev answer : Reply → Answer
    answer reply = record { reply = reply; shows = Nothing; held = t.held; marks = t.marks }

    done_answer : (o : Ended) → made s.held ≡ ended t.held (count_of o) (ending_of o) → IsAnswer s (Change change) (answer (DoneWith (outcome_meaning o)))
    done_answer o e = inl (
        (λ i. record { reply = DoneWith (sym (outcomes o) i); shows = Nothing; held = t.held; marks = marks i })
        ∙ sym (ap (λ (r : Canonical). due_change (made_of r) s) e))

    refused_answer : (e : Refusal) → made s.held ≡ aborted e → t.held ≡ s.held → IsAnswer s (Change change) (answer (Refused e))
    refused_answer e k h = inl ((λ i. record { reply = Refused e; shows = Nothing; held = h i; marks = marks i }) ∙ sym (ap (λ (r : Canonical). due_change (made_of r) s) k))

    err_answer : (e : Refusal) (full : Type 0) → IsReasonFor (made s.held) limit full e → t.held ≡ s.held → IsAnswer s (Change change) (answer (Refused e))
    err_answer e full why h = elim (cases_Bool (is_limit limit)) [
      | inr k ↦ (let is = why.limited.1 k in refused_answer e (bad s.held k ∙ ap aborted (sym is)) h)
      | inl k ↦ elim (why.others k) [
        | inl m ↦ inr (refl, inl (λ i. record { reply = Refused (m i); shows = Nothing; held = h i; marks = marks i }))
        | inr l ↦ elim l [
          | inl m ↦ refused_answer e m h
          | inr m ↦ inr (refl, inr (refl, λ i. record { reply = Refused (m.0 i); shows = Nothing; held = h i; marks = marks i }))
        ]
      ]
    ]

  pub run_changes : {B : Type 0} (meaning : B → Listener) (a b : Benched B) (r : Result Ended Refusal) (full : Type 0) → IfOk r (λ o. made (module_held a.transaction) ≡ ended (module_held b.transaction) (count_of o) (ending_of o)) → OnErr r (module_held b.transaction ≡ module_held a.transaction) → IfErr r (λ e. IsReasonFor (made (module_held a.transaction)) limit full e)
      → open_marks b.transaction ≡ open_marks a.transaction → AllAge (state_of meaning a).panel (state_of meaning b).panel → Does meaning (Change change) (canonical_reply r) a b
  run_changes meaning a b (Ok o) full ok err why marks ages = record { answer = done_answer (state_of meaning a) (state_of meaning b) marks o ok; panel = ages }
  run_changes meaning a b (Err e) full ok err why marks ages = record { answer = err_answer (state_of meaning a) (state_of meaning b) marks e full why err; panel = ages }

  -- a run is refused with 31 only if the definition says so, or if the context is full
  pub run_full : (s : State) (r : Result Ended Refusal) (full : Type 0) → IfErr r (λ e. IsReasonFor (made s.held) limit full e) → IsFullSo full s change (canonical_reply r)
  run_full s (Ok (Converged k)) full why is = absurd cc
  run_full s (Ok (Limit k)) full why is = absurd cc
  run_full s (Err e) full why is = elim (cases_Bool (is_limit limit)) [
    | inr k ↦ inl (as_due (bad s.held k ∙ ap aborted (sym (why.limited.1 k))))
    | inl k ↦ elim (why.others k) [
      | inl m ↦ absurd (no_want (ap Refused (sym m) ∙ is))
      | inr l ↦ elim l [
        | inl m ↦ inl (as_due m)
        | inr m ↦ inr m.1
      ]
    ]
  ]
    where
      as_due : made s.held ≡ aborted e → Refused e ≡ (due s (Change change)).reply
      as_due k = sym (ap (λ (c : Canonical). (due_change (made_of c) s).reply) k)

      no_want : Refused Memory ≡ Refused Full → ⊥
      no_want e = absurd cc

module _ {B : Type 0} (meaning : B → Listener) where
  pub changes_by : (pattern_set : PatternSetModel) (limit : ℕ) (a b : Benched B) (r : Result Ended Refusal) (full : Type 0) → IfOk r (λ o. IsRewriting pattern_set limit (module_held a.transaction) o (module_held b.transaction)) → OnErr r (module_held b.transaction ≡ module_held a.transaction) → IfErr r (λ e. IsReasonBy pattern_set limit (module_held a.transaction) full e)
      → open_marks b.transaction ≡ open_marks a.transaction → AllAge (state_of meaning a).panel (state_of meaning b).panel → Does meaning (Change (rewriting pattern_set limit)) (canonical_reply r) a b
  changes_by pattern_set limit a b r full ok err why marks ages = run_changes (rewriting_of pattern_set limit) limit (no_limit_by pattern_set limit) meaning a b r full ok err why marks ages

pub full_by : (pattern_set : PatternSetModel) (limit : ℕ) (s : State) (r : Result Ended Refusal) (full : Type 0) → IfErr r (λ e. IsReasonBy pattern_set limit s.held full e) → IsFullSo full s (rewriting pattern_set limit) (canonical_reply r)
full_by pattern_set limit s r full why = run_full (rewriting_of pattern_set limit) limit (no_limit_by pattern_set limit) s r full why

-- rewriting by the rules of canonicalization is the transformation of canonicalization
pub canonicalizing_is : (limit : ℕ) → rewriting (by_rules greedy_rules) limit ≡ canonicalizing limit
canonicalizing_is limit = λ i. record { transformed = λ m. made_of (same_rewriting limit m i); interns = true }

-- ---- memory ran out before a run
module _ {B : Type 0} (meaning : B → Listener) (a : Benched B) where
  pub led_none : Led meaning a a
  led_none = ([], notified_stays meaning a)

  pub memory_changes : (pattern_set : PatternSetModel) (limit : ℕ) → AllAge (state_of meaning a).panel (state_of meaning a).panel → Does meaning (Change (rewriting pattern_set limit)) (Refused Memory) a a
  memory_changes pattern_set limit ages = record { answer = inr (refl, inl refl); panel = ages }

pub memory_full : (pattern_set : PatternSetModel) (limit : ℕ) (s : State) (full : Type 0) → IsFullSo full s (rewriting pattern_set limit) (Refused Memory)
memory_full pattern_set limit s full is = absurd (no_want is)
  where
    no_want : Refused Memory ≡ Refused Full → ⊥
    no_want e = absurd cc
