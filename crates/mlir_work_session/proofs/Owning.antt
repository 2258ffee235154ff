-- Proofs about the answers to commands with a pattern registry.
use Rattle.std.proofs.Common.{◌≡◌, sym, refl, subst, ◌⊎◌, inl, inr, ℕ, List, [], Option, Some, None}
use Rattle.ir_event.specs.types.declared.refusal.Refusal.{Refusal}
use Rattle.ir_event.specs.types.declared.refusal.Refusal.TheVariants.{Memory}
use Rattle.mlir_work_transforms.specs.Applying.{applying_user_pattern}
use Rattle.mlir_work_transforms.specs.rewriter.Commands.{Ask, Command, Follows, Response, Replied, TextRefusedAt}
use Rattle.mlir_work_transforms.specs.rewriter.Machine as call
use Rattle.mlir_work_transforms.specs.rewriter.Machine.{Nothing, Refused, State}
use Rattle.mlir_work_transforms.specs.registry.Registry.{Kept}
use Rattle.mlir_work_session.specs.declared.options.SessionOptions.{SessionOptions}
use Rattle.mlir_work_session.specs.Machine.{AsksHeadroom, IsContextFull, RunsCommand}
use Rattle.mlir_work_session.specs.Sittings.{AppliesUserPattern, NextToHeadroom, RunsPatternCommand}
use Rattle.mlir_work_session.proofs.Obeying.{obeys_within, some_answer}
use Rattle.mlir_work_session.proofs.Panels.{all_stay}

module _ (session_options : SessionOptions) where
  -- if memory runs out, the pattern isn't applied
  user_pattern_unapplied : (k : Kept) (x : ℕ) (s : State) → AppliesUserPattern k x s (Replied (Refused Memory)) [] s
  user_pattern_unapplied k x s = (record { answer = inr (refl, inl refl); panel = all_stay s.panel }, refl)

  -- a refusal at a byte past the end of the input may be replaced by `Memory`
  pub next_to_within : (own : Option (Kept × ℕ)) (s t : State) (c : Command) (response within : Response) (bytes : List ℕ) → (within ≡ response) ⊎ ((refusal : Refusal) × (offset : ℕ) × (response ≡ TextRefusedAt refusal offset) × (within ≡ Replied (Refused Memory))) → RunsPatternCommand session_options own s c response bytes t → RunsPatternCommand session_options own s c within bytes t
  next_to_within None s t c response within bytes so h = obeys_within session_options s t c response within bytes so h
  next_to_within (Some p) s t c response within bytes (inl same) h = subst (λ (r : Response). AppliesUserPattern p.0 p.1 s r bytes t) (sym same) h
  next_to_within (Some p) s t c response within bytes (inr (why, offset, is, then)) h =
      absurd (subst (λ (r : Response). Follows s (Ask (call.Change (applying_user_pattern p.0.rewrite_pattern p.1))) r Nothing t) is h.0)

  -- each command has an answer
  abbrev pub SomeNextTo : Option (Kept × ℕ) → State → Command → Type 0
  SomeNextTo own s c = (response : Response) × (bytes : List ℕ) × (t : State) × RunsPatternCommand session_options own s c response bytes t × ((why : Refusal) (offset : ℕ) → response ≡ TextRefusedAt why offset → ⊥)

  pub some_next_to : (own : Option (Kept × ℕ)) (s : State) (c : Command) → SomeNextTo own s c
  some_next_to None s c = some_answer session_options s c
  some_next_to (Some p) s c = (Replied (Refused Memory), [], s, user_pattern_unapplied p.0 p.1 s, λ why offset e. cc)

  -- a command without a registered pattern is answered as one without a registry
  pub next_to_none : (own : Option (Kept × ℕ)) (s t : State) (c : Command) (response : Response) (bytes : List ℕ) → own ≡ None → RunsCommand session_options s c response bytes t → RunsPatternCommand session_options own s c response bytes t
  next_to_none own s t c response bytes e h = subst (λ (o : Option (Kept × ℕ)). RunsPatternCommand session_options o s c response bytes t) (sym e) h

  pub next_to_some : (own : Option (Kept × ℕ)) (s t : State) (c : Command) (k : Kept) (x : ℕ) (response : Response) (bytes : List ℕ) → own ≡ Some (k, x) → AppliesUserPattern k x s response bytes t → RunsPatternCommand session_options own s c response bytes t
  next_to_some own s t c k x response bytes e h = subst (λ (o : Option (Kept × ℕ)). RunsPatternCommand session_options o s c response bytes t) (sym e) h

  pub next_to_none_headroom : (own : Option (Kept × ℕ)) (full : Type 0) (s : State) (c : Command) (response : Response) → own ≡ None → AsksHeadroom full session_options s c response → NextToHeadroom full session_options own s c response
  next_to_none_headroom own full s c response e h = subst (λ (o : Option (Kept × ℕ)). NextToHeadroom full session_options o s c response) (sym e) h

  pub next_to_some_headroom : (own : Option (Kept × ℕ)) (full : Type 0) (s : State) (c : Command) (k : Kept) (x : ℕ) (response : Response) → own ≡ Some (k, x) → IsContextFull full s (applying_user_pattern k.rewrite_pattern x) response → NextToHeadroom full session_options own s c response
  next_to_some_headroom own full s c k x response e h = subst (λ (o : Option (Kept × ℕ)). NextToHeadroom full session_options o s c response) (sym e) h
