-- A conversion is the transformation that the state machine defines.
use Rattle.std.proofs.Common.{◌≡◌, refl, ap, sym, ◌∙◌, inl, inr, ℕ, Result, Ok, Err}
use Rattle.ir_event.specs.Listener.{Listener}
use Rattle.ir_event.specs.Modules.{Module}
use Rattle.patterns.proofs.of_rewriter.Together.{Ages}
use Rattle.patterns.specs.rewriter.Machine.{Answer, Change, Converted, DoneWith, Goes, IsAnswer, IsUnmade, Nothing, State, due_change, fault_reply}
use Rattle.patterns.specs.RewriterCalls.{Benched, Led, state_of}
use Rattle.patterns.specs.Held.{module_held, open_marks}
use Rattle.conversion_base.specs.Conversion.{Ended, converted, given_up}
use Rattle.conversion.specs.Benches.{seen}
use Rattle.conversion.specs.Converting.{conversion_reply, ended_as, ending}
use Rattle.conversion.specs.States.{Converts, FaultIsOutOfCapacity}
use Rattle.conversion.specs.declared.fault.Fault.{Fault}

module _ {B : Type 0} (meaning : B → Listener) (to : Module → Ended) (a b : Benched B) (marks : open_marks b.transaction ≡ open_marks a.transaction) where
  abbrev before : State
  before = state_of meaning a

  abbrev answer_with : Result ℕ Fault → Answer
  answer_with r = record { reply = conversion_reply r; shows = Nothing; held = module_held b.transaction; marks = open_marks b.transaction }

  unmade : (f : Fault) → FaultIsOutOfCapacity b.transaction.ctx f → module_held b.transaction ≡ module_held a.transaction → IsUnmade before (Change (ending to)) (answer_with (Err f))
  unmade f w held = elim w.1 [
    | inl memory ↦ inl (λ i. record { reply = fault_reply (memory i) (w.0 i); shows = Nothing; held = held i; marks = marks i })
    | inr full ↦ inr (refl, λ i. record { reply = fault_reply (full.0 i) (w.0 i); shows = Nothing; held = held i; marks = marks i })
  ]

  answered : (e : Ended) → to (module_held a.transaction) ≡ e → (r : Result ℕ Fault) → Converts e r (seen a) (seen b) → IsAnswer before (Change (ending to)) (answer_with r)
  answered (converted m ks) is (Ok n) c = inl ((λ i. record { reply = DoneWith (Converted (c.0 i)); shows = Nothing; held = c.1 i; marks = marks i }) ∙ sym (ap (λ e. due_change (ended_as e) before) is))
  answered (converted m ks) is (Err f) c = inr (refl, unmade f c.0 c.1)
  answered (given_up e x) is (Ok n) c = absurd c
  answered (given_up e x) is (Err f) c = elim c.0 [
    | inl due ↦ inl ((λ i. record { reply = fault_reply (due.0 i) (due.1 i); shows = Nothing; held = c.1 i; marks = marks i }) ∙ sym (ap (λ e. due_change (ended_as e) before) is))
    | inr w ↦ inr (refl, unmade f w c.1)
  ]

  pub converts_goes : Ages meaning → (r : Result ℕ Fault) → Converts (to (module_held a.transaction)) r (seen a) (seen b) → Led meaning a b → Goes before (Change (ending to)) (conversion_reply r) Nothing (state_of meaning b)
  converts_goes ages r c led = record { answer = answered (to (module_held a.transaction)) refl r c; panel = ages a b led }
