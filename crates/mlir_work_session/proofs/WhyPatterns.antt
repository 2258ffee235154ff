-- Proofs about `why` with the name of a registered pattern.
use Rattle.std.proofs.Common.{◌≡◌, refl, sym, subst, inl, inr, ℕ, List, [], Bool, true, false, Option, Some, None}
use Rattle.ir_event.specs.types.declared.refusal.Refusal.{Refusal}
use Rattle.ir_event.specs.types.declared.refusal.Refusal.TheVariants.{Memory, NoSuchOp}
use Rattle.ir_event.specs.trees.Ids.{has_id}
use Rattle.mlir_work_transforms.specs.rewriter.Commands.{Ask, Follows, Misplaced, Replied, Requested, Response, TextRefusedAt, Unparsed}
use Rattle.mlir_work_transforms.specs.rewriter.Machine as call
use Rattle.mlir_work_transforms.specs.rewriter.Machine.{Done, Nothing, Refused, Shows, State, Tree}
use Rattle.mlir_work_script.specs.SessionCommands.{SessionCommand}
use Rattle.mlir_work_transforms.specs.registry.Replies.{IsBounded}
use Rattle.mlir_work_transforms.specs.registry.Registry.{Kept, RegistryModel}
use Rattle.mlir_work_transforms.specs.WhyPattern.{why_pattern}
use Rattle.mlir_work_session.specs.Machine.{SessionSetting}
use Rattle.mlir_work_session.specs.RuleLists.{RunsListCommand, list_command_of}
use Rattle.mlir_work_session.specs.WhyPatterns.{AsksThere, RunsNamedCommand, AnswersWhyPattern}
use Rattle.mlir_work_session.proofs.AnswersRuleList.{next_to_bounded, some_next_to}

module _ (k : Kept) (x : ℕ) (s : State) where
  pub tells_absent : has_id x s.held.tree ≡ false → AnswersWhyPattern k x s (Replied (Refused NoSuchOp)) [] s
  tells_absent gone = record { requested = Misplaced NoSuchOp; shows = Nothing; asks = subst (λ (b : Bool). AsksThere b (Misplaced NoSuchOp)) (sym gone) refl; follows = (refl, refl, refl); text = refl }

  pub tells_why : has_id x s.held.tree ≡ true → (bytes : List ℕ) → bytes ≡ why_pattern k s.held x → AnswersWhyPattern k x s (Replied Done) bytes s
  tells_why there bytes is = record { requested = Ask call.Print; shows = Tree s.held.tree; asks = subst (λ (b : Bool). AsksThere b (Ask call.Print)) (sym there) refl; follows = record { answer = inl refl; panel = refl }; text = is }

  pub tells_nothing : has_id x s.held.tree ≡ true → AnswersWhyPattern k x s (Replied (Refused Memory)) [] s
  tells_nothing there = record { requested = Ask call.Print; shows = Nothing; asks = subst (λ (b : Bool). AsksThere b (Ask call.Print)) (sym there) refl; follows = record { answer = inr (refl, refl); panel = refl }; text = refl }

  pub some_reported : (response : Response) × (bytes : List ℕ) × (t : State) × AnswersWhyPattern k x s response bytes t
  some_reported = go (has_id x s.held.tree) refl
    where
      go : (b : Bool) → has_id x s.held.tree ≡ b → (response : Response) × (bytes : List ℕ) × (t : State) × AnswersWhyPattern k x s response bytes t
      go false e = (Replied (Refused NoSuchOp), [], s, tells_absent e)
      go true e = (Replied Done, why_pattern k s.held x, s, tells_why e (why_pattern k s.held x) refl)

-- a `why` is never refused at a byte of a text
reported_at : (s t : State) (b : Bool) (requested : Requested) (shows : Shows) (refusal : Refusal) (offset : ℕ) → AsksThere b requested → Follows s requested (TextRefusedAt refusal offset) shows t → ⊥
reported_at s t b (Ask c) shows refusal offset asks follows = follows
reported_at s t b (Misplaced why) shows refusal offset asks follows = absurd (let e : TextRefusedAt refusal offset ≡ Replied (Refused why) = follows.0 in cc)
reported_at s t true (Unparsed why place) shows refusal offset asks follows = absurd (let e : Unparsed why place ≡ Ask call.Print = asks in cc)
reported_at s t false (Unparsed why place) shows refusal offset asks follows = absurd (let e : Unparsed why place ≡ Misplaced NoSuchOp = asks in cc)

module _ (setting : SessionSetting) (registry : RegistryModel) where
  pub named_bounded : (bytes : ℕ) (own : Option (Kept × ℕ)) (s : State) (o : SessionCommand) (response : Response) (shown : List ℕ) (t : State) → RunsNamedCommand setting registry own s o response shown t → IsBounded bytes response
  named_bounded bytes None s o response shown t h = next_to_bounded setting registry bytes (list_command_of o registry) s o response shown t h
  named_bounded bytes (Some p) s o response shown t h = λ refusal offset is.
      absurd (reported_at s t (has_id p.1 s.held.tree) h.requested h.shows refusal offset h.asks (subst (λ (r : Response). Follows s h.requested r h.shows t) is h.follows))

  pub named_pattern : (own : Option (Kept × ℕ)) (s t : State) (o : SessionCommand) (p : Kept × ℕ) (response : Response) (bytes : List ℕ) → own ≡ Some p → AnswersWhyPattern p.0 p.1 s response bytes t → RunsNamedCommand setting registry own s o response bytes t
  named_pattern own s t o p response bytes e h = subst (λ (q : Option (Kept × ℕ)). RunsNamedCommand setting registry q s o response bytes t) (sym e) h

  pub unnamed : (own : Option (Kept × ℕ)) (s t : State) (o : SessionCommand) (response : Response) (bytes : List ℕ) → own ≡ None → RunsListCommand setting registry (list_command_of o registry) s o response bytes t → RunsNamedCommand setting registry own s o response bytes t
  unnamed own s t o response bytes e h = subst (λ (q : Option (Kept × ℕ)). RunsNamedCommand setting registry q s o response bytes t) (sym e) h

  pub some_named : (own : Option (Kept × ℕ)) (s : State) (o : SessionCommand) → (response : Response) × (bytes : List ℕ) × (t : State) × RunsNamedCommand setting registry own s o response bytes t
  some_named None s o = some_next_to setting registry (list_command_of o registry) s o
  some_named (Some p) s o = some_reported p.0 p.1 s
