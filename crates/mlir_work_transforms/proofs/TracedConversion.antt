-- A traced conversion and the lines that show it.
use Rattle.std.proofs.Common.{◌≡◌, refl, ap, sym, ◌∙◌, ◌⊎◌, subst, inl, inr, ℕ, ◌-◌, ◌<◌, ◌≤◌, List, [], ◌∷◌, ◌++◌, append-nil, append_assoc, length, take, drop, get_or, Result, Ok, Err, Option, Some, None, arith}
use Rattle.std.specs.Prelude.{IfErr, MatchResult, OnOk}
use Rattle.ir_event.specs.types.declared.refusal.Refusal.{Refusal}
use Rattle.ir_event.specs.types.declared.refusal.Refusal.TheVariants.{Memory}
use Rattle.ir_event.specs.Listener.{Listener}
use Rattle.ir_event.specs.Modules.{Module}
use Rattle.conversion.proofs.of_rewriter.Together.{Ages}
use Rattle.conversion.specs.rewriter.RewriterCalls.{Benched, Does, Led, state_of}
use Rattle.conversion.specs.rewriter.Held.{module_held, open_marks}
use Rattle.conversion.specs.rewriter.Machine.{Answer, Change, IsAnswer, Nothing, due_change, fault_reply}
use Rattle.conversion.proofs.Replied.{converts_goes}
use Rattle.conversion.proofs.Stops.{fault_is_for}
use Rattle.conversion.specs.Benches.{seen}
use Rattle.conversion.specs.Conversion.{Ended, converted, given_up}
use Rattle.conversion.specs.Converting.{conversion_reply, conversion_to, ended_as, ending, match_failure_to, applied_rules}
use Rattle.conversion.specs.States.{State, Converts}
use Rattle.conversion.specs.MatchFailures.{reported_failure}
use Rattle.conversion.specs.Targets.{Aim}
use Rattle.conversion.specs.declared.fault.Fault.{Fault}
use Rattle.conversion.specs.declared.match_failure.MatchFailure.{MatchFailure}
use Rattle.conversion_base.specs.declared.applied_rule.AppliedRule.{AppliedRule}
use Rattle.mlir_work_transforms.specs.ConvertText.{FaultWithLine, conversion_text, applied_as, match_failure_below, match_failure_line, latest_match_failure, located_text, lines_below}
use Rattle.mlir_work_transforms.specs.TraceText.{applied_line}
use Rattle.mlir_work_transforms.proofs.Converted.{wants}
use Rattle.ir_event.proofs.of_types.Truths.{rest_at}

-- ---- the answer

-- the trace of the conversion, appended to the lines before
pub record Notified (o : Option Aim) (held : Module) (r : Result ℕ Fault) (begun text : List ℕ) (before failure : Option MatchFailure) : Type 0 where
  pub nothing : begun ≡ []
  pub unset : before ≡ None
  pub reported : OnOk r (text ≡ begun ++ located_text (applied_rules (conversion_to o held)))
  pub stays : IfErr r (λ f. failure ≡ latest_match_failure (reported_failure f.id (match_failure_to o held)) before)

-- the lines that show the conversion
pub record Shown (r q : Result ℕ Fault) (text lines : List ℕ) (failure : Option MatchFailure) : Type 0 where
  pub ok : OnOk r ((q ≡ r) × (lines ≡ text))
  pub fault : IfErr r (λ f. FaultWithLine f failure q lines)

abbrev no_headroom : Fault
no_headroom = record { refusal = Memory; id = None }

abbrev Same : Result ℕ Fault → Result ℕ Fault → Type 0
Same r q = (q ≡ r) ⊎ ((f : Fault) × (r ≡ Err f) × (q ≡ Err no_headroom))

same_or : (r q : Result ℕ Fault) (text lines : List ℕ) (failure : Option MatchFailure) → Shown r q text lines failure → Same r q
same_or (Ok n) q text lines failure s = inl s.ok.0
same_or (Err f) q text lines failure s = go s.fault
  where
    go : FaultWithLine f failure q lines → Same (Err f) q
    go (inl (e, l)) = inl e
    go (inr (e, l)) = inr (f, refl, e)

same_match : (P Q : Type 0) (r q : Result ℕ Fault) → MatchResult r (λ _. P) (λ _. Q) → Same r q → MatchResult q (λ _. P) (λ _. Q)
same_match P Q r q h (inl e) = subst (λ (x : Result ℕ Fault). MatchResult x (λ _. P) (λ _. Q)) (sym e) h
same_match P Q r q h (inr (f, e, m)) =
    let k : Q = subst (λ (x : Result ℕ Fault). MatchResult x (λ _. P) (λ _. Q)) e h in
    subst (λ (x : Result ℕ Fault). MatchResult x (λ _. P) (λ _. Q)) (sym m) k

module _ {B : Type 0} (meaning : B → Listener) (o : Option Aim) (a b : Benched B) (r q : Result ℕ Fault) (text lines : List ℕ) (failure : Option MatchFailure) (shown : Shown r q text lines failure) where
  marks_stay : Does meaning (Change (ending (conversion_to o))) (conversion_reply r) a b → open_marks b.transaction ≡ open_marks a.transaction
  marks_stay d = go d.answer
    where
      due_marks : (e : Ended) → (due_change (ended_as e) (state_of meaning a)).marks ≡ open_marks a.transaction
      due_marks (converted m ks) = refl
      due_marks (given_up e x) = refl

      go : IsAnswer (state_of meaning a) (Change (ending (conversion_to o))) (record { reply = conversion_reply r; shows = Nothing; held = module_held b.transaction; marks = open_marks b.transaction }) → open_marks b.transaction ≡ open_marks a.transaction
      go (inl e) = ap (λ (x : Answer). x.marks) e ∙ due_marks (conversion_to o (module_held a.transaction))
      go (inr (t, inl e)) = ap (λ (x : Answer). x.marks) e
      go (inr (t, inr (f, e))) = ap (λ (x : Answer). x.marks) e

  unmade : (f : Fault) → r ≡ Err f → Converts (conversion_to o (module_held a.transaction)) r (seen a) (seen b) → Converts (conversion_to o (module_held a.transaction)) (Err no_headroom) (seen a) (seen b)
  unmade f e c =
      let d : Converts (conversion_to o (module_held a.transaction)) (Err f) (seen a) (seen b) = subst (λ (x : Result ℕ Fault). Converts (conversion_to o (module_held a.transaction)) x (seen a) (seen b)) e c in
      (wants (conversion_to o (module_held a.transaction)) Memory (seen b) (inl refl), d.1)

  pub traced_converts : Converts (conversion_to o (module_held a.transaction)) r (seen a) (seen b) → Converts (conversion_to o (module_held a.transaction)) q (seen a) (seen b)
  traced_converts c = go (same_or r q text lines failure shown)
    where
      go : Same r q → Converts (conversion_to o (module_held a.transaction)) q (seen a) (seen b)
      go (inl e) = subst (λ (x : Result ℕ Fault). Converts (conversion_to o (module_held a.transaction)) x (seen a) (seen b)) (sym e) c
      go (inr (f, e, m)) = subst (λ (x : Result ℕ Fault). Converts (conversion_to o (module_held a.transaction)) x (seen a) (seen b)) (sym m) (unmade f e c)

  pub traced_does : Ages meaning → Led meaning a b → Converts (conversion_to o (module_held a.transaction)) r (seen a) (seen b) → Does meaning (Change (ending (conversion_to o))) (conversion_reply r) a b
      → Does meaning (Change (ending (conversion_to o))) (conversion_reply q) a b
  traced_does ages led c d = converts_goes meaning (conversion_to o) a b (marks_stay d) ages q (traced_converts c) led

  pub traced_on : (P : Type 0) → OnOk r P → OnOk q P
  traced_on P h = go (same_or r q text lines failure shown)
    where
      go : Same r q → OnOk q P
      go (inl e) = subst (λ (x : Result ℕ Fault). OnOk x P) (sym e) h
      go (inr (f, e, m)) = subst (λ (x : Result ℕ Fault). OnOk x P) (sym m) tt

  pub traced_journal : (P Q : Type 0) → MatchResult r (λ _. P) (λ _. Q) → MatchResult q (λ _. P) (λ _. Q)
  traced_journal P Q h = same_match P Q r q h (same_or r q text lines failure shown)

-- ---- the lines

below : (e : Refusal) (ks : List AppliedRule) (i : Option ℕ) (z : Option (ℕ × MatchFailure)) → ((x : ℕ) (s : ℕ × MatchFailure) → i ≡ Some x → z ≡ Some s → s.0 ≡ x)
    → match_failure_below i (latest_match_failure (reported_failure i z) None) ≡ lines_below (fault_reply e i) ks z
below e ks None z h = refl
below e ks (Some x) None h = refl
below e ks (Some x) (Some s) h = ap (λ n. match_failure_line n s.1) (sym (h x s refl refl))

pub traced_lines : (o : Option Aim) (a b : State) (r q : Result ℕ Fault) (begun text lines : List ℕ) (before failure : Option MatchFailure) → Converts (conversion_to o a.held) r a b → Notified o a.held r begun text before failure → Shown r q text lines failure
    → lines ≡ conversion_text o a.held (conversion_reply q)
traced_lines o a b (Ok n) q begun text lines before failure c h s =
    s.ok.1 ∙ h.reported ∙ ap (λ (t : List ℕ). t ++ located_text (applied_rules (conversion_to o a.held))) h.nothing ∙ sym (ap (λ x. conversion_text o a.held (conversion_reply x)) s.ok.0)
traced_lines o a b (Err f) q begun text lines before failure c h s = go s.fault
  where
    go : FaultWithLine f failure q lines → lines ≡ conversion_text o a.held (conversion_reply q)
    go (inl (e, l)) =
        l ∙ ap (match_failure_below f.id) (h.stays ∙ ap (latest_match_failure (reported_failure f.id (match_failure_to o a.held))) h.unset) ∙ below f.refusal (applied_rules (conversion_to o a.held)) f.id (match_failure_to o a.held) (λ x z i k. fault_is_for o a.held f b.things x z c.0 i k)
        ∙ sym (ap (λ x. conversion_text o a.held (conversion_reply x)) e)
    go (inr (e, l)) = l ∙ sym (ap (λ x. conversion_text o a.held (conversion_reply x)) e)

-- ---- a line for each applied rule

pub located_more : (x d : AppliedRule) (xs : List AppliedRule) (out more all : List ℕ) → 1 ≤ length xs → x ≡ get_or xs 0 d → more ≡ out ++ applied_line [] (applied_as x) → out ++ located_text xs ≡ all
    → more ++ located_text (take (length xs - 1) (drop 1 xs)) ≡ all
located_more x d xs out more all l z e h =
    let rest = take (length xs - 1) (drop 1 xs) in
    ap (λ t. t ++ located_text rest) e ∙ append_assoc out (applied_line [] (applied_as x)) (located_text rest) ∙ ap (λ ys. out ++ located_text ys) (sym (rest_at xs x d l z)) ∙ h

pub located_done : (xs : List AppliedRule) (out all : List ℕ) → length xs < 1 → out ++ located_text xs ≡ all → out ≡ all
located_done [] out all l h = sym (append-nil out) ∙ h
located_done (x ∷ xs) out all l h = absurd (omega (arith, l))
