-- Proofs about the answers to session commands with a pattern registry.
use Rattle.std.proofs.Common.{◌≡◌, ◌∙◌, ap, sym, subst, refl, inl, inr, ℕ, List, [], ◌++◌, Bool, true, false, Option, Some, None}
use Rattle.std.specs.Prelude.{◌==◌, ◌&&◌, is_some, length, not, option_map}
use Rattle.ir_event.specs.types.declared.refusal.Refusal.{Refusal}
use Rattle.ir_event.specs.types.declared.refusal.Refusal.TheVariants.{Full, Memory, NoSuchKey, NotProved}
use Rattle.ir_event.specs.Modules.{Module}
use Rattle.mlir_work_transforms.specs.rewriter.Commands.{Ask, Follows, Response, Replied, TextRefusedAt}
use Rattle.mlir_work_transforms.specs.rewriter.Machine as call
use Rattle.mlir_work_transforms.specs.rewriter.Machine.{State, Refused, Nothing, Transformation}
use Rattle.mlir_work_transforms.specs.greedy.Changes.{rewriting}
use Rattle.mlir_work_transforms.specs.greedy.Tracing.{trace_of}
use Rattle.mlir_work_transforms.specs.greedy.PatternSet.{RuleOrPatternModel, pattern_set_from}
use Rattle.mlir_work_transforms.specs.FiredText.{rule_list_fired}
use Rattle.mlir_work_transforms.specs.Transforming.{lines_below}
use Rattle.mlir_work_transforms.specs.declared.trace_form.TraceForm.{TraceForm}
use Rattle.mlir_work_script.specs.SessionCommands.{SessionCommand}
use Rattle.mlir_work_transforms.specs.registry.Replies.{IsBounded, is_accepted}
use Rattle.mlir_work_transforms.specs.registry.Registry.{RegistryModel}
use Rattle.mlir_work_transforms.specs.RuleLists.{Listed, all_listed, rules_and_patterns_in, rule_list_trace, names_in}
use Rattle.mlir_work_transforms.specs.Unproved.{unproved_of}
use Rattle.mlir_work_session.specs.declared.options.SessionOptions.{SessionOptions}
use Rattle.mlir_work_transforms.specs.declared.trace_form.TraceForm.TheVariants.{Counts, EachRewrite, Off}
use Rattle.mlir_work_session.specs.Machine.{IsContextFull, RunsSessionCommand, SessionSetting, limit_or, bytes_if}
use Rattle.mlir_work_session.specs.RuleLists.{RunsListCommand, ListCommand, ListCommandHeadroom, AnswersRuleList, AnswersRuleListUnless, is_unproved, list_command_bytes, list_command_change, list_command_trace}
use Rattle.mlir_work_session.proofs.Fulfilling.{fulfils_bounded, some_fulfilled}
use Rattle.mlir_work_session.proofs.Rewritten.{rewrites_bounded, rewrites_called, rewrites_forgot, rewrites_unnamed, same_headroom, some_rewrite}
use Rattle.mlir_work_session.proofs.Headroom.{other_headroom}

-- a refusal has no bytes below the reply
refused_bytes : (session_options : SessionOptions) (registry : RegistryModel) (x : ListCommand) (m : Module) (refusal : Refusal) → [] ≡ list_command_bytes session_options registry x m (Replied (Refused refusal))
refused_bytes session_options registry x m refusal = refl

module _ (session_options : SessionOptions) (registry : RegistryModel) (x : ListCommand) where
  abbrev change : List RuleOrPatternModel → Transformation
  change candidates = rewriting (pattern_set_from candidates) (limit_or session_options.limit x.limit)

  change_is : (ls : List Listed) → all_listed registry x.names ≡ Some ls → list_command_change session_options registry x ≡ Some (change (rules_and_patterns_in ls))
  change_is ls e = ap (option_map (λ ls. change (rules_and_patterns_in ls))) e

  -- a list with a name that is neither a rule's nor a pattern's is refused
  pub mixes_unnamed : (s : State) → all_listed registry x.names ≡ None → AnswersRuleList session_options registry x s (Replied (Refused NoSuchKey)) [] s
  mixes_unnamed s e = rewrites_unnamed _ _ s (ap (option_map (λ ls. change (rules_and_patterns_in ls))) e) (refused_bytes session_options registry x s.held NoSuchKey)

  -- a list of rules and patterns, refused since memory ran out
  pub mixes_forgot : (s : State) (refusal : Refusal) → refusal ≡ Memory → is_some (all_listed registry x.names) ≡ true → AnswersRuleList session_options registry x s (Replied (Refused refusal)) [] s
  mixes_forgot s refusal is there = go (all_listed registry x.names) refl
    where
      go : (o : Option (List Listed)) → all_listed registry x.names ≡ o → AnswersRuleList session_options registry x s (Replied (Refused refusal)) [] s
      go None e = absurd (let f : false ≡ true = sym (ap is_some e) ∙ there in cc)
      go (Some ls) e = rewrites_forgot _ _ s (change (rules_and_patterns_in ls)) refusal (change_is ls e) is (refused_bytes session_options registry x s.held refusal)

  -- the lines of a run are those of the list command
  lines_are : (m : Module) (response : Response) (ls : List Listed) (form : TraceForm) → all_listed registry x.names ≡ Some ls
      → lines_below form response (names_in ls) (trace_of (pattern_set_from (rules_and_patterns_in ls)) (limit_or session_options.limit x.limit) m) ≡ list_command_trace form session_options registry x m response
  lines_are m response ls Off e = refl
  lines_are m response ls EachRewrite e = ap (λ (o : Option (List Listed)). rule_list_trace o (limit_or session_options.limit x.limit) m) (sym e)
  lines_are m response ls Counts e = ap (λ (o : Option (List Listed)). rule_list_fired o (limit_or session_options.limit x.limit) m response) (sym e)

  -- the bytes below the reply: the lines of unproved patterns, and then those of the run
  bytes_are : (m : Module) (response : Response) (bytes unproved : List ℕ) (ls : List Listed) (candidates : List RuleOrPatternModel) (form : TraceForm) (names : List (List ℕ)) (n : ℕ) → all_listed registry x.names ≡ Some ls → unproved ≡ unproved_of registry x.names m.tree → form ≡ x.trace → candidates ≡ rules_and_patterns_in ls → names ≡ names_in ls
      → n ≡ limit_or session_options.limit x.limit → bytes ≡ bytes_if (is_accepted response) (unproved ++ lines_below form response names (trace_of (pattern_set_from candidates) n m)) → bytes ≡ list_command_bytes session_options registry x m response
  bytes_are m response bytes unproved ls candidates form names n e these same_form is named same shows =
      shows
      ∙ ap (λ (l : List ℕ). bytes_if (is_accepted response) (l ++ lines_below form response names (trace_of (pattern_set_from candidates) n m))) these
      ∙ ap (λ (p : TraceForm). bytes_if (is_accepted response) (unproved_of registry x.names m.tree ++ lines_below p response names (trace_of (pattern_set_from candidates) n m))) same_form
      ∙ ap (λ (ns : List (List ℕ)). bytes_if (is_accepted response) (unproved_of registry x.names m.tree ++ lines_below x.trace response ns (trace_of (pattern_set_from candidates) n m))) named
      ∙ ap (λ (bs : List RuleOrPatternModel). bytes_if (is_accepted response) (unproved_of registry x.names m.tree ++ lines_below x.trace response (names_in ls) (trace_of (pattern_set_from bs) n m))) is
      ∙ ap (λ (k : ℕ). bytes_if (is_accepted response) (unproved_of registry x.names m.tree ++ lines_below x.trace response (names_in ls) (trace_of (pattern_set_from (rules_and_patterns_in ls)) k m))) same
      ∙ ap (λ (l : List ℕ). bytes_if (is_accepted response) (unproved_of registry x.names m.tree ++ l)) (lines_are m response ls x.trace e)

  -- a list of rules and patterns
  pub mixes_found : (s t : State) (response : Response) (bytes unproved : List ℕ) (ls : List Listed) (candidates : List RuleOrPatternModel) (form : TraceForm) (names : List (List ℕ)) (n : ℕ) → all_listed registry x.names ≡ Some ls → unproved ≡ unproved_of registry x.names s.held.tree → form ≡ x.trace → candidates ≡ rules_and_patterns_in ls → names ≡ names_in ls
      → n ≡ limit_or session_options.limit x.limit → Follows s (Ask (call.Change (rewriting (pattern_set_from candidates) n))) response Nothing t
      → bytes ≡ bytes_if (is_accepted response) (unproved ++ lines_below form response names (trace_of (pattern_set_from candidates) n s.held)) → AnswersRuleList session_options registry x s response bytes t
  mixes_found s t response bytes unproved ls candidates form names n e these same_form is named same follows shows =
      rewrites_called _ _ s t (change (rules_and_patterns_in ls)) response bytes (change_is ls e)
      (subst (λ (k : ℕ). Follows s (Ask (call.Change (rewriting (pattern_set_from (rules_and_patterns_in ls)) k))) response Nothing t) same (subst (λ (bs : List RuleOrPatternModel). Follows s (Ask (call.Change (rewriting (pattern_set_from bs) n))) response Nothing t) is follows))
      (bytes_are s.held response bytes unproved ls candidates form names n e these same_form is named same shows)

  -- ---- refusals because the context is full
  pub list_command_unroomed : (full : Type 0) (s : State) (refusal : Refusal) → (refusal ≡ Full → ⊥) → ListCommandHeadroom full session_options registry x s (Replied (Refused refusal))
  list_command_unroomed full s refusal other f is = other_headroom full s f refusal other

  pub list_command_headroom : (full : Type 0) (s : State) (response : Response) (ls : List Listed) (candidates : List RuleOrPatternModel) (n : ℕ) → all_listed registry x.names ≡ Some ls → candidates ≡ rules_and_patterns_in ls → n ≡ limit_or session_options.limit x.limit
      → IsContextFull full s (rewriting (pattern_set_from candidates) n) response → ListCommandHeadroom full session_options registry x s response
  list_command_headroom full s response ls candidates n e is same so f there =
      same_headroom s (list_command_change session_options registry x) f (change (rules_and_patterns_in ls)) response (change_is ls e) there
      (subst (λ (k : ℕ). IsContextFull full s (rewriting (pattern_set_from (rules_and_patterns_in ls)) k) response) same (subst (λ (bs : List RuleOrPatternModel). IsContextFull full s (rewriting (pattern_set_from bs) n) response) is so))

  -- ---- a command that asks for proved patterns
  and_false : (b : Bool) → (b && false) ≡ false
  and_false true = refl
  and_false false = refl

  -- a list with an unknown name isn't refused for unproved patterns
  unnamed_is : (m : Module) → all_listed registry x.names ≡ None → is_unproved registry x m ≡ false
  unnamed_is m e =
      ap (λ (o : Option (List Listed)). x.proved && (is_some o && not (length (unproved_of registry x.names m.tree) == 0))) e ∙ and_false x.proved

  pub unless_unnamed : (s : State) → all_listed registry x.names ≡ None → AnswersRuleListUnless (is_unproved registry x s.held) session_options registry x s (Replied (Refused NoSuchKey)) [] s
  unless_unnamed s e =
      subst (λ (b : Bool). AnswersRuleListUnless b session_options registry x s (Replied (Refused NoSuchKey)) [] s) (sym (unnamed_is s.held e)) (mixes_unnamed s e)

  -- refused since memory ran out
  pub unless_forgot : (s : State) (refusal : Refusal) → refusal ≡ Memory → is_some (all_listed registry x.names) ≡ true → AnswersRuleListUnless (is_unproved registry x s.held) session_options registry x s (Replied (Refused refusal)) [] s
  unless_forgot s refusal is there = go (is_unproved registry x s.held)
    where
      go : (b : Bool) → AnswersRuleListUnless b session_options registry x s (Replied (Refused refusal)) [] s
      go true = inl (ap (λ (r : Refusal). Replied (Refused r)) is, refl, refl)
      go false = mixes_forgot s refusal is there

  -- whether the lines refuse the command, if each name resolves
  unproved_is : (m : Module) (ls : List Listed) (lines : List ℕ) (r : Bool) → all_listed registry x.names ≡ Some ls → lines ≡ unproved_of registry x.names m.tree → r ≡ (x.proved && not (length lines == 0)) → is_unproved registry x m ≡ r
  unproved_is m ls lines r e these is =
      ap (λ (o : Option (List Listed)). x.proved && (is_some o && not (length (unproved_of registry x.names m.tree) == 0))) e
      ∙ ap (λ (l : List ℕ). x.proved && not (length l == 0)) (sym these) ∙ sym is

  -- refused with the lines of the patterns that no check proves
  pub unless_unproved : (s : State) (ls : List Listed) (lines : List ℕ) (r : Bool) → all_listed registry x.names ≡ Some ls → lines ≡ unproved_of registry x.names s.held.tree → r ≡ (x.proved && not (length lines == 0)) → r ≡ true
      → AnswersRuleListUnless (is_unproved registry x s.held) session_options registry x s (Replied (Refused NotProved)) lines s
  unless_unproved s ls lines r e these is so =
      subst (λ (b : Bool). AnswersRuleListUnless b session_options registry x s (Replied (Refused NotProved)) lines s) (sym (unproved_is s.held ls lines r e these is ∙ so)) (inr (refl, these, refl))

  -- not refused for unproved patterns
  pub unless_proved : (s t : State) (response : Response) (bytes : List ℕ) (ls : List Listed) (lines : List ℕ) (r : Bool) → all_listed registry x.names ≡ Some ls → lines ≡ unproved_of registry x.names s.held.tree → r ≡ (x.proved && not (length lines == 0)) → r ≡ false
      → AnswersRuleList session_options registry x s response bytes t → AnswersRuleListUnless (is_unproved registry x s.held) session_options registry x s response bytes t
  unless_proved s t response bytes ls lines r e these is so h =
      subst (λ (b : Bool). AnswersRuleListUnless b session_options registry x s response bytes t) (sym (unproved_is s.held ls lines r e these is ∙ so)) h

  unless_bounded : (bytes : ℕ) (b : Bool) (s : State) (response : Response) (shown : List ℕ) (t : State) → AnswersRuleListUnless b session_options registry x s response shown t → IsBounded bytes response
  unless_bounded bytes true s response shown t (inl h) = λ refusal offset is. absurd (let e : TextRefusedAt refusal offset ≡ Replied (Refused Memory) = sym is ∙ h.0 in cc)
  unless_bounded bytes true s response shown t (inr h) = λ refusal offset is. absurd (let e : TextRefusedAt refusal offset ≡ Replied (Refused NotProved) = sym is ∙ h.0 in cc)
  unless_bounded bytes false s response shown t h = rewrites_bounded _ _ bytes s response shown t h

  some_unless : (b : Bool) (s : State) → (response : Response) × (bytes : List ℕ) × (t : State) × AnswersRuleListUnless b session_options registry x s response bytes t
  some_unless true s = (Replied (Refused Memory), [], s, inl (refl, refl, refl))
  some_unless false s = some_rewrite _ _ s (refused_bytes session_options registry x s.held)

module _ (setting : SessionSetting) (registry : RegistryModel) where
  pub next_to_bounded : (bytes : ℕ) (own : Option ListCommand) (s : State) (o : SessionCommand) (response : Response) (shown : List ℕ) (t : State) → RunsListCommand setting registry own s o response shown t → IsBounded bytes response
  next_to_bounded bytes None s o response shown t h = fulfils_bounded bytes setting s o response shown t h
  next_to_bounded bytes (Some x) s o response shown t h = unless_bounded setting.session_options registry x bytes (is_unproved registry x s.held) s response shown t h

  -- each session command has an answer
  pub some_next_to : (own : Option ListCommand) (s : State) (o : SessionCommand) → (response : Response) × (bytes : List ℕ) × (t : State) × RunsListCommand setting registry own s o response bytes t
  some_next_to None s o = some_fulfilled setting s o
  some_next_to (Some x) s o = some_unless setting.session_options registry x (is_unproved registry x s.held) s

  -- a session command without a registered pattern is answered as one without a registry
  pub plainly : (own : Option ListCommand) (s t : State) (o : SessionCommand) (response : Response) (bytes : List ℕ) → own ≡ None → RunsSessionCommand setting s o response bytes t → RunsListCommand setting registry own s o response bytes t
  plainly own s t o response bytes e h = subst (λ (m : Option ListCommand). RunsListCommand setting registry m s o response bytes t) (sym e) h

  pub rule_list : (own : Option ListCommand) (s t : State) (o : SessionCommand) (x : ListCommand) (response : Response) (bytes : List ℕ) → own ≡ Some x → AnswersRuleListUnless (is_unproved registry x s.held) setting.session_options registry x s response bytes t → RunsListCommand setting registry own s o response bytes t
  rule_list own s t o x response bytes e h = subst (λ (m : Option ListCommand). RunsListCommand setting registry m s o response bytes t) (sym e) h
