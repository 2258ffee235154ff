-- A conversion after its names were interned is a conversion of the rewriter before it.
use Rattle.std.proofs.Common.{◌≡◌, refl, ap, sym, ◌∙◌, ◌⊎◌, subst, inl, inr, ℕ, List, [], ◌++◌, Result, Ok, Err, Option, Some, None}
use Rattle.std.specs.Prelude.{IfErr, MatchResult, OnOk}
use Rattle.ir_event.specs.types.Sound.{Holds}
use Rattle.ir_event.specs.types.declared.refusal.Refusal.{Refusal}
use Rattle.ir_event.specs.types.declared.refusal.Refusal.TheVariants.{BadTarget, Full, Memory}
use Rattle.ir_event.specs.Listener.{Listener}
use Rattle.ir_event.specs.Modules.{Module}
use Rattle.conversion.proofs.of_rewriter.Together.{Ages}
use Rattle.conversion.proofs.of_rewriter.Notified.{notified_more}
use Rattle.conversion.specs.rewriter.RewriterCalls.{Benched, Does, Led, state_of}
use Rattle.conversion.specs.rewriter.Held.{module_held}
use Rattle.conversion.specs.rewriter.Moves.{Recorded}
use Rattle.conversion.proofs.of_rewriter.Noted.{recorded_more}
use Rattle.conversion.specs.Runs.{Noted}
use Rattle.conversion.specs.rewriter.Machine.{Change, Goes, IsFullSo, Nothing, Refused, State as Machine, due, due_change, fault_reply}
use Rattle.conversion.proofs.Replied.{converts_goes}
use Rattle.conversion.specs.Benches.{seen}
use Rattle.conversion.specs.Conversion.{Ended, converted, given_up, conversion_of}
use Rattle.conversion.specs.Converting.{conversion_reply, conversion_to, converting, ended_as, ending, match_failure_to, applied_rules}
use Rattle.conversion.specs.MatchFailures.{unlegalised_op, reported_failure}
use Rattle.conversion.specs.declared.match_failure.MatchFailure.{MatchFailure}
use Rattle.conversion_base.specs.declared.applied_rule.AppliedRule.{AppliedRule}
use Rattle.conversion.specs.States.{State, Converts, Faults, IsFull, IsOutOfCapacity, FaultIsOutOfCapacity}
use Rattle.conversion.specs.Targets.{Aim}
use Rattle.conversion.specs.declared.fault.Fault.{Fault}
use Rattle.mlir_work_transforms.specs.Interned.{Interned}

-- a lack of room is an allowed fault of every conversion
pub wants : (e : Ended) (refusal : Refusal) (s : State) → IsOutOfCapacity s.things refusal → Faults e (record { refusal = refusal; id = None }) s.things
wants (converted m ks) refusal s w = (refl, w)
wants (given_up f x) refusal s w = inr (refl, w)

converts_from : (e : Ended) (r : Result ℕ Fault) (a m b : State) → m.held ≡ a.held → Converts e r m b → Converts e r a b
converts_from e (Ok n) a m b same c = c
converts_from e (Err f) a m b same c = (c.0, c.1 ∙ same)

-- if a conversion is refused with 31, then the definition requires it or the context is full
pub convert_full : (o : Option Aim) (s : Machine) (a b : State) (r : Result ℕ Fault) → Converts (conversion_to o s.held) r a b → IsFullSo (IsFull b.things) s (ending (conversion_to o)) (conversion_reply r)
convert_full o s a b (Ok n) c is = absurd cc
convert_full o s a b (Err f) c is = go (conversion_to o s.held) refl c.0
  where
    no_want : Refused Memory ≡ Refused Full → ⊥
    no_want e = absurd cc

    wanted : FaultIsOutOfCapacity b.things f → (conversion_reply (Err f) ≡ (due s (Change (ending (conversion_to o)))).reply) ⊎ IsFull b.things
    wanted (none, inl m) = absurd (no_want (sym (λ i. fault_reply (m i) (none i)) ∙ is))
    wanted (none, inr (m, full)) = inr full

    go : (e : Ended) → conversion_to o s.held ≡ e → Faults e f b.things → (conversion_reply (Err f) ≡ (due s (Change (ending (conversion_to o)))).reply) ⊎ IsFull b.things
    go (converted m ks) so w = wanted w
    go (given_up x y) so (inl (p, q)) = inl ((λ i. fault_reply (p i) (q i)) ∙ sym (ap (λ (e : Ended). (due_change (ended_as e) s).reply) so))
    go (given_up x y) so (inr w) = wanted w

module _ {B : Type 0} (meaning : B → Listener) (o : Option Aim) (a m : Benched B) (interned : Interned meaning a m) where
  held_same : module_held m.transaction ≡ module_held a.transaction
  held_same = ap (λ (s : Machine). s.held) interned.same

  -- there was no room for the names
  pub refused_converts : (refusal : Refusal) → IsOutOfCapacity m.transaction.ctx refusal → Converts (conversion_to o (module_held a.transaction)) (Err (record { refusal = refusal; id = None })) (seen a) (seen m)
  refused_converts refusal w = (wants (conversion_to o (module_held a.transaction)) refusal (seen m) w, held_same)

  pub refused_does : (refusal : Refusal) → Ages meaning → IsOutOfCapacity m.transaction.ctx refusal → Led meaning a m → Does meaning (Change (ending (conversion_to o))) (conversion_reply (Err (record { refusal = refusal; id = None }))) a m
  refused_does refusal ages w led = converts_goes meaning (conversion_to o) a m (ap (λ (s : Machine). s.marks) interned.same) ages (Err (record { refusal = refusal; id = None })) (refused_converts refusal w) led

  -- a number isn't a rule's
  abbrev unaimed : Fault
  unaimed = record { refusal = BadTarget; id = None }

  pub unaimed_converts : None ≡ o → Converts (conversion_to o (module_held a.transaction)) (Err unaimed) (seen a) (seen m)
  unaimed_converts none = subst (λ (p : Option Aim). Converts (conversion_to p (module_held a.transaction)) (Err unaimed) (seen a) (seen m)) none (inl (refl, refl), held_same)

  pub unaimed_does : Ages meaning → None ≡ o → Led meaning a m → Does meaning (Change (ending (conversion_to o))) (conversion_reply (Err unaimed)) a m
  unaimed_does ages none led = converts_goes meaning (conversion_to o) a m (ap (λ (s : Machine). s.marks) interned.same) ages (Err unaimed) (unaimed_converts none) led

  pub then_led : (b : Benched B) → Holds a.transaction.ctx → Led meaning m b → Led meaning a b
  then_led b holds led = let one = interned.led holds in (one.1.0 ++ led.0, notified_more meaning one.1.0 led.0 a m b one.0 one.1.1 led.1)

  -- the names were interned and the module was converted
  module _ (b : Benched B) (aim : Aim) (same : Some aim ≡ o) (r : Result ℕ Fault) where
    pub then_converts : Converts (conversion_of aim (module_held m.transaction)) r (seen m) (seen b) → Converts (conversion_to o (module_held a.transaction)) r (seen a) (seen b)
    then_converts c =
        converts_from (conversion_to o (module_held a.transaction)) r (seen a) (seen m) (seen b) held_same
        (subst (λ (n : Module). Converts (conversion_to o n) r (seen m) (seen b)) held_same (subst (λ (h : Option Aim). Converts (conversion_to h (module_held m.transaction)) r (seen m) (seen b)) same c))

    pub then_does : Does meaning (Change (converting aim)) (conversion_reply r) m b → Does meaning (Change (ending (conversion_to o))) (conversion_reply r) a b
    then_does d =
        subst (λ (s : Machine). Goes s (Change (ending (conversion_to o))) (conversion_reply r) Nothing (state_of meaning b)) interned.same
        (subst (λ (h : Option Aim). Goes (state_of meaning m) (Change (ending (conversion_to h))) (conversion_reply r) Nothing (state_of meaning b)) same d)

    -- the trace of the conversion
    pub then_reported : (P : List AppliedRule → Type 0) → OnOk r (P (applied_rules (conversion_of aim (module_held m.transaction)))) → OnOk r (P (applied_rules (conversion_to o (module_held a.transaction))))
    then_reported P h =
        subst (λ (n : Module). OnOk r (P (applied_rules (conversion_to o n)))) held_same (subst (λ (q : Option Aim). OnOk r (P (applied_rules (conversion_to q (module_held m.transaction))))) same h)

    pub then_stays : (P : Option MatchFailure → Type 0) → IfErr r (λ f. P (reported_failure f.id (unlegalised_op aim (module_held m.transaction)))) → IfErr r (λ f. P (reported_failure f.id (match_failure_to o (module_held a.transaction))))
    then_stays P h =
        subst (λ (n : Module). IfErr r (λ f. P (reported_failure f.id (match_failure_to o n)))) held_same (subst (λ (q : Option Aim). IfErr r (λ f. P (reported_failure f.id (match_failure_to q (module_held m.transaction))))) same h)

  -- the journal after the conversion
  pub then_journal : {A : Type 0} (r : Result A Fault) (b : Benched B) → MatchResult r (λ _. Noted m.transaction b.transaction) (λ _. Recorded [] m.transaction b.transaction) → MatchResult r (λ _. Noted a.transaction b.transaction) (λ _. Recorded [] a.transaction b.transaction)
  then_journal (Ok u) b n = ([] ++ n.0, recorded_more [] n.0 a.transaction m.transaction b.transaction interned.left.marks interned.left n.1)
  then_journal (Err f) b n = recorded_more [] [] a.transaction m.transaction b.transaction interned.left.marks interned.left n
