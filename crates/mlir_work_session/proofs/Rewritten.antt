-- Proofs about the answers to commands that rewrite the whole module.
use Rattle.std.proofs.Common.{◌≡◌, ◌∙◌, ap, sym, subst, refl, inl, inr, ℕ, List, [], ◌++◌, Bool, true, false, Option, Some, None, Result, Ok, Err}
use Rattle.std.specs.Prelude.{is_some, option_map, OnOk}
use Rattle.ir_event.specs.types.declared.refusal.Refusal.{Refusal}
use Rattle.ir_event.specs.types.declared.refusal.Refusal.TheVariants.{Memory, NoSuchKey}
use Rattle.ir_event.specs.Modules.{Module}
use Rattle.mlir_work_transforms.specs.rewriter.Commands.{AppliesRule, Ask, Canon, Follows, Misplaced, Replied, Requested, Response, RuleName, TextRefusedAt, Unparsed}
use Rattle.mlir_work_transforms.specs.rewriter.Machine as call
use Rattle.mlir_work_transforms.specs.rewriter.Machine.{Done, DoneAs, DoneWith, Goes, Nothing, Refused, RefusedOn, Reply, State, Transformation}
use Rattle.mlir_work_transforms.specs.greedy.Changes.{canonical_reply, rewriting}
use Rattle.mlir_work_transforms.specs.greedy.Tracing.{trace_of}
use Rattle.mlir_work_transforms.specs.greedy.PatternSet.{by_rules}
use Rattle.mlir_work_transforms.specs.greedy.declared.applied_rewrite.AppliedRewrite.{AppliedRewrite}
use Rattle.mlir_work_transforms.specs.greedy.declared.outcome.Outcome.{Outcome as Ended}
use Rattle.mlir_work_transforms.specs.registry.Replies.{IsBounded, is_accepted}
use Rattle.mlir_work_transforms.specs.FiredText.{fired_below, fired_by}
use Rattle.mlir_work_transforms.specs.Rewriting.{rewriting_named, rules_named}
use Rattle.mlir_work_transforms.specs.Rule.{Rule}
use Rattle.mlir_work_transforms.specs.TraceText.{trace_by, traced_rules, tracing}
use Rattle.mlir_work_transforms.specs.Transforming.{lines_below}
use Rattle.mlir_work_transforms.specs.declared.trace_form.TraceForm.{TraceForm}
use Rattle.mlir_work_transforms.specs.declared.trace_form.TraceForm.TheVariants.{Counts, EachRewrite, Off}
use Rattle.mlir_work_script.specs.SessionCommands.{Fired, Rewrite, Trace}
use Rattle.mlir_work_session.specs.declared.options.SessionOptions.{SessionOptions}
use Rattle.mlir_work_session.specs.Machine.{IsContextFull, RunsCommand, RunsSessionCommand, SessionSetting, bytes_if, limit_or}
use Rattle.mlir_work_session.specs.Rewrites.{Rewrites, RunsRewrite, rewrite_bytes}
use Rattle.mlir_work_session.proofs.Panels.{all_stay}

-- ---- any rewriting command

module _ (change : Option Transformation) (shown : Response → List ℕ) where
  -- a command with a name that doesn't resolve is refused
  pub rewrites_unnamed : (s : State) → change ≡ None → [] ≡ shown (Replied (Refused NoSuchKey)) → Rewrites change shown s (Replied (Refused NoSuchKey)) [] s
  rewrites_unnamed s e text = record { requested = Misplaced NoSuchKey; asks = subst (λ (o : Option Transformation). AppliesRule o (Misplaced NoSuchKey)) (sym e) refl; follows = (refl, refl, refl); text = text }

  -- a command whose names resolve
  pub rewrites_called : (s t : State) (f : Transformation) (response : Response) (bytes : List ℕ) → change ≡ Some f → Follows s (Ask (call.Change f)) response Nothing t → bytes ≡ shown response → Rewrites change shown s response bytes t
  rewrites_called s t f response bytes e follows text = record { requested = Ask (call.Change f); asks = subst (λ (o : Option Transformation). AppliesRule o (Ask (call.Change f))) (sym e) refl; follows = follows; text = text }

  -- a command that is refused since memory ran out
  pub rewrites_forgot : (s : State) (f : Transformation) (refusal : Refusal) → change ≡ Some f → refusal ≡ Memory → [] ≡ shown (Replied (Refused refusal)) → Rewrites change shown s (Replied (Refused refusal)) [] s
  rewrites_forgot s f refusal e is text =
      rewrites_called s s f (Replied (Refused refusal)) [] e (subst (λ (r : Refusal). Follows s (Ask (call.Change f)) (Replied (Refused r)) Nothing s) (sym is) (record { answer = inr (refl, inl refl); panel = all_stay s.panel })) text

  -- each rewriting command has an answer
  pub some_rewrite : (s : State) → ((refusal : Refusal) → [] ≡ shown (Replied (Refused refusal))) → (response : Response) × (bytes : List ℕ) × (t : State) × Rewrites change shown s response bytes t
  some_rewrite s nothing = go change refl
    where
      go : (o : Option Transformation) → change ≡ o → (response : Response) × (bytes : List ℕ) × (t : State) × Rewrites change shown s response bytes t
      go None e = (Replied (Refused NoSuchKey), [], s, rewrites_unnamed s e (nothing NoSuchKey))
      go (Some f) e = (Replied (Refused Memory), [], s, rewrites_forgot s f Memory e refl (nothing Memory))

  -- no answer has a byte offset
  not_unparsed : (refusal : Refusal) (offset : Option ℕ) → AppliesRule change (Unparsed refusal offset) → ⊥
  not_unparsed refusal offset asks = go change asks
    where
      go : (o : Option Transformation) → AppliesRule o (Unparsed refusal offset) → ⊥
      go None e = absurd cc
      go (Some f) e = absurd cc

  not_at : (s t : State) (requested : Requested) (refusal : Refusal) (offset : ℕ) → AppliesRule change requested → Follows s requested (TextRefusedAt refusal offset) Nothing t → ⊥
  not_at s t (Ask c) refusal offset asks follows = follows
  not_at s t (Misplaced why) refusal offset asks follows = absurd (let e : TextRefusedAt refusal offset ≡ Replied (Refused why) = follows.0 in cc)
  not_at s t (Unparsed why place) refusal offset asks follows = not_unparsed why place asks

  pub rewrites_bounded : (bytes : ℕ) (s : State) (response : Response) (text : List ℕ) (t : State) → Rewrites change shown s response text t → IsBounded bytes response
  rewrites_bounded bytes s response text t h = λ refusal offset is.
      absurd (not_at s t h.requested refusal offset h.asks (subst (λ (r : Response). Follows s h.requested r Nothing t) is h.follows))

-- a refusal allowed because the context is full, for an equal transformation
pub same_headroom : {full : Type 0} (s : State) (o : Option Transformation) (f g : Transformation) (response : Response) → o ≡ Some g → o ≡ Some f → IsContextFull full s g response → IsContextFull full s f response
same_headroom {full} s o f g response there is so = subst (λ (h : Transformation). IsContextFull full s h response) (alike (sym there ∙ is)) so
  where
    alike : Some g ≡ Some f → g ≡ f
    alike e = cc

-- ---- one run

-- a called transformation leads to the next state
pub follows_called : (s t : State) (f : Transformation) (reply : Reply) (response : Response) → response ≡ Replied reply → Goes s (call.Change f) reply Nothing t → Follows s (Ask (call.Change f)) response Nothing t
follows_called s t f reply response is goes = rw is goes

-- the bytes below the reply: the given lines, and then those of the run
pub shows_lines : (form : TraceForm) (called : Result Ended Refusal) (response : Response) (before after bytes : List ℕ) (names : List (List ℕ)) (fs : List AppliedRewrite) → response ≡ Replied (canonical_reply called)
    → OnOk called (after ≡ before ++ lines_below form (Replied (canonical_reply called)) names fs) → bytes ≡ bytes_if (is_accepted (Replied (canonical_reply called))) after → bytes ≡ bytes_if (is_accepted response) (before ++ lines_below form response names fs)
shows_lines form (Ok o) response before after bytes names fs is reported shows = rw is (shows ∙ reported)
shows_lines form (Err e) response before after bytes names fs is reported shows = rw is shows

-- ---- rewrites by rules

-- counts are shown below an accepted reply only
accepted_fired : (response : Response) (names : List (List ℕ)) (fs : List AppliedRewrite) → bytes_if (is_accepted response) (fired_below response names fs) ≡ fired_below response names fs
accepted_fired (Replied Done) names fs = refl
accepted_fired (Replied (DoneAs x)) names fs = refl
accepted_fired (Replied (DoneWith outcome)) names fs = refl
accepted_fired (Replied (Refused refusal)) names fs = refl
accepted_fired (Replied (RefusedOn refusal x)) names fs = refl
accepted_fired (TextRefusedAt refusal offset) names fs = refl

no_bytes : (b : Bool) → bytes_if b [] ≡ []
no_bytes true = refl
no_bytes false = refl

-- the lines of a run by rules
rules_lines : (form : TraceForm) (names : Option (List RuleName)) (rs : List Rule) (limit : ℕ) (m : Module) (response : Response) → traced_rules names ≡ Some rs → bytes_if (is_accepted response) (lines_below form response [] (trace_of (by_rules rs) limit m)) ≡ rewrite_bytes form names limit m response
rules_lines Off names rs limit m response e = no_bytes (is_accepted response)
rules_lines EachRewrite names rs limit m response e = ap (λ (o : Option (List Rule)). bytes_if (is_accepted response) (trace_by o limit m)) (sym e)
rules_lines Counts names rs limit m response e =
    accepted_fired response [] (trace_of (by_rules rs) limit m) ∙ ap (λ (o : Option (List Rule)). fired_by o limit m response) (sym e)

-- a rewrite by rules, if the list of lines was empty at first
pub rewrites_rules : (options : SessionOptions) (form : TraceForm) (names : Option (List RuleName)) (limit : Option ℕ) (s t : State) (response : Response) (bytes : List ℕ) (f : Transformation) (rs : List Rule) (given : TraceForm) (n : ℕ) (before : List ℕ) (labels : List (List ℕ))
    → tracing names (limit_or options.limit limit) ≡ Some f → traced_rules names ≡ Some rs → given ≡ form → n ≡ limit_or options.limit limit → before ≡ [] → labels ≡ []
    → Follows s (Ask (call.Change f)) response Nothing t → bytes ≡ bytes_if (is_accepted response) (before ++ lines_below given response labels (trace_of (by_rules rs) n s.held)) → RunsRewrite options form names limit s response bytes t
rewrites_rules options form names limit s t response bytes f rs given n before labels change rules same_form same none unnamed follows shows =
    rewrites_called _ _ s t f response bytes change follows
    (shows
    ∙ ap (λ (l : List ℕ). bytes_if (is_accepted response) (l ++ lines_below given response labels (trace_of (by_rules rs) n s.held))) none
    ∙ ap (λ (ns : List (List ℕ)). bytes_if (is_accepted response) (lines_below given response ns (trace_of (by_rules rs) n s.held))) unnamed
    ∙ ap (λ (k : ℕ). bytes_if (is_accepted response) (lines_below given response [] (trace_of (by_rules rs) k s.held))) same
    ∙ ap (λ (p : TraceForm). bytes_if (is_accepted response) (lines_below p response [] (trace_of (by_rules rs) (limit_or options.limit limit) s.held))) same_form
    ∙ rules_lines form names rs (limit_or options.limit limit) s.held response rules)

-- a refusal has no lines below it
refused_lines : (form : TraceForm) (names : Option (List RuleName)) (limit : ℕ) (m : Module) (refusal : Refusal) → [] ≡ rewrite_bytes form names limit m (Replied (Refused refusal))
refused_lines Off names limit m refusal = refl
refused_lines EachRewrite names limit m refusal = refl
refused_lines Counts names limit m refusal = go (traced_rules names)
  where
    go : (o : Option (List Rule)) → [] ≡ fired_by o limit m (Replied (Refused refusal))
    go None = refl
    go (Some rs) = refl

-- the transformation of a list of names is that of the rules
pub rules_rewrite : (names : List RuleName) (rs : List Rule) (limit : ℕ) → Some rs ≡ rules_named names → rewriting_named names limit ≡ Some (rewriting (by_rules rs) limit)
rules_rewrite names rs limit rules = sym (ap (option_map (λ (rs : List Rule). rewriting (by_rules rs) limit)) rules)

-- a name isn't a rule's
pub rewrites_unruled : (options : SessionOptions) (form : TraceForm) (names : List RuleName) (limit : Option ℕ) (s : State) → None ≡ rules_named names → RunsRewrite options form (Some names) limit s (Replied (Refused NoSuchKey)) [] s
rewrites_unruled options form names limit s e =
    rewrites_unnamed _ _ s (sym (ap (option_map (λ (rs : List Rule). rewriting (by_rules rs) (limit_or options.limit limit))) e)) (refused_lines form (Some names) (limit_or options.limit limit) s.held NoSuchKey)

-- refused since memory ran out for the list
pub rewrites_unlisted : (options : SessionOptions) (form : TraceForm) (names : List RuleName) (limit : Option ℕ) (s : State) (refusal : Refusal) → refusal ≡ Memory → is_some (rules_named names) ≡ true → RunsRewrite options form (Some names) limit s (Replied (Refused refusal)) [] s
rewrites_unlisted options form names limit s refusal is there = go (rules_named names) refl
  where
    go : (o : Option (List Rule)) → rules_named names ≡ o → RunsRewrite options form (Some names) limit s (Replied (Refused refusal)) [] s
    go None e = absurd (let f : false ≡ true = sym (ap is_some e) ∙ there in cc)
    go (Some rs) e =
        rewrites_forgot _ _ s (rewriting (by_rules rs) (limit_or options.limit limit)) refusal (rules_rewrite names rs (limit_or options.limit limit) (sym e)) is (refused_lines form (Some names) (limit_or options.limit limit) s.held refusal)

-- ---- the commands

pub obeys_canon : (options : SessionOptions) (limit : Option ℕ) (s t : State) (response : Response) (bytes : List ℕ) → RunsRewrite options Off None limit s response bytes t → RunsCommand options s (Canon limit) response bytes t
obeys_canon options limit s t response bytes h = record { requested = h.requested; shows = Nothing; asks = h.asks; follows = h.follows; text = h.text }

module _ (setting : SessionSetting) (proved : Bool) (limit : Option ℕ) (s t : State) (response : Response) (bytes : List ℕ) where
  pub fulfils_rewrite : (names : List RuleName) → RunsRewrite setting.session_options Off (Some names) limit s response bytes t → RunsSessionCommand setting s (Rewrite names proved limit) response bytes t
  fulfils_rewrite names h = record { requested = h.requested; shows = Nothing; asks = h.asks; follows = h.follows; text = h.text }

  pub fulfils_trace : (names : Option (List RuleName)) → RunsRewrite setting.session_options EachRewrite names limit s response bytes t → RunsSessionCommand setting s (Trace names proved limit) response bytes t
  fulfils_trace names h = record { requested = h.requested; shows = Nothing; asks = h.asks; follows = h.follows; text = h.text }

  pub fulfils_fired : (names : Option (List RuleName)) → RunsRewrite setting.session_options Counts names limit s response bytes t → RunsSessionCommand setting s (Fired names proved limit) response bytes t
  fulfils_fired names h = record { requested = h.requested; shows = Nothing; asks = h.asks; follows = h.follows; text = h.text }

-- each rewrite by rules has an answer
pub some_rules_rewrite : (options : SessionOptions) (form : TraceForm) (names : Option (List RuleName)) (limit : Option ℕ) (s : State) → (response : Response) × (bytes : List ℕ) × (t : State) × RunsRewrite options form names limit s response bytes t
some_rules_rewrite options form names limit s = some_rewrite _ _ s (refused_lines form names (limit_or options.limit limit) s.held)
