-- An answer within an input is also an answer within a longer input.
use Rattle.std.proofs.Common.{◌≡◌, ◌∙◌, ap, refl, ◌+◌, ◌≤◌, inl, inr, ℕ, List, ◌++◌, arith, Bool, true, false, Option, Some, None}
use Rattle.ir_event.specs.types.declared.refusal.Refusal.{Refusal}
use Rattle.ir_event.specs.Modules.{Module}
use Rattle.ir_text.specs.Public.{SpellsAttr}
use Rattle.mlir_work_transforms.specs.rewriter.Commands as command
use Rattle.mlir_work_transforms.specs.rewriter.Commands.{Requested, Ask, CanFill, Command, IsAttrRefusal, IsOpRefusal, Misplaced, Response, TextRefused, Unparsed}
use Rattle.mlir_work_transforms.specs.rewriter.Machine.{Shows, State}
use Rattle.mlir_work_transforms.specs.rewriter.Texts.{SpellsNextTo}
use Rattle.mlir_work_script.specs.Commands.{Spoken, Nothing, Bad, Obey, Ordered, Registered}
use Rattle.mlir_work_script.specs.SessionCommands.{Attach, CanonAt, Fired, SessionCommand, PrintIds, Rewrite, ShowAll, ShowFrom, Trace, TraceConvert, Why, ReportOf}
use Rattle.mlir_work_transforms.specs.registry.Notices.{Notice}
use Rattle.mlir_work_transforms.specs.registry.Registry.{RegistryModel, Kept}
use Rattle.mlir_work_transforms.specs.registry.Replies.{is_accepted}
use Rattle.mlir_work_transforms.specs.Unproved.{unproved_of}
use Rattle.mlir_work_session.specs.Machine.{AsksIn, RunsSessionCommand, SessionCommandAsks, session_command_bytes, bytes_if}
use Rattle.mlir_work_session.specs.RuleLists.{RunsListCommand, ListCommand, AnswersRuleListUnless, is_unproved, list_command_bytes, list_command_of, list_command_trace}
use Rattle.mlir_work_transforms.specs.declared.trace_form.TraceForm.{TraceForm}
use Rattle.mlir_work_transforms.specs.declared.trace_form.TraceForm.TheVariants.{Counts, EachRewrite, Off}
use Rattle.mlir_work_session.specs.WhyPatterns.{RunsNamedCommand, asked_pattern}
use Rattle.mlir_work_session.specs.Output.{Line, SessionSetting, Replied, Replies}
use Rattle.mlir_work_session.specs.Sittings.{RunsPatternCommand, Sitting, registered_pattern_of}

module _ (setting : SessionSetting) (bytes : ℕ) (longer : setting.session_options.bytes ≤ bytes) where
  abbrev pub wider : SessionSetting
  wider = record { session_options = record setting.session_options { bytes = bytes }; supply = setting.supply }

  fills : CanFill setting.session_options.bytes → CanFill bytes
  fills h = omega (arith, h, longer)

  text_wider : {X : Type 0} (IsRefusal : Refusal → Option ℕ → Type 0) (Rendered : X → Type 0) (refusal : Refusal) (offset : Option ℕ) → TextRefused setting.session_options.bytes IsRefusal Rendered refusal offset → TextRefused bytes IsRefusal Rendered refusal offset
  text_wider IsRefusal Rendered refusal offset (is, inl none) = (is, inl none)
  text_wider IsRefusal Rendered refusal offset (is, inr (inl (many, h))) = (is, inr (inl (many, fills h)))
  text_wider IsRefusal Rendered refusal offset (is, inr (inr memory)) = (is, inr (inr memory))

  asks_wider : (c : Command) (m : Module) (requested : Requested) → AsksIn setting.session_options c m requested → AsksIn wider.session_options c m requested
  asks_wider (command.Erase x) m requested h = h
  asks_wider (command.Move x point) m requested h = h
  asks_wider (command.Insert point text) m (Ask call) h = h
  asks_wider (command.Insert point text) m (Misplaced refusal) h = h
  asks_wider (command.Insert point text) m (Unparsed refusal offset) h = text_wider IsOpRefusal (SpellsNextTo setting.session_options.opaque m text) refusal offset h
  asks_wider (command.SetOperand x k v) m requested h = h
  asks_wider (command.Replace old new) m requested h = h
  asks_wider (command.SetAttr x key text) m (Ask call) h = h
  asks_wider (command.SetAttr x key text) m (Misplaced refusal) h = h
  asks_wider (command.SetAttr x key text) m (Unparsed refusal offset) h = text_wider IsAttrRefusal (SpellsAttr setting.session_options.opaque text) refusal offset h
  asks_wider (command.DropAttr x key) m requested h = h
  asks_wider (command.Canon limit) m requested h = h
  asks_wider (command.Convert target) m requested h = h
  asks_wider (command.Apply name x) m requested h = h
  asks_wider command.Sweep m requested h = h
  asks_wider command.Begin m requested h = h
  asks_wider command.Commit m requested h = h
  asks_wider command.Rollback m requested h = h
  asks_wider (command.Detach kind) m requested h = h
  asks_wider (command.Resync kind) m requested h = h
  asks_wider (command.Report kind) m requested h = h
  asks_wider command.Print m requested h = h

  orders_wider : (session_command : SessionCommand) (m : Module) (requested : Requested) → SessionCommandAsks setting session_command m requested → SessionCommandAsks wider session_command m requested
  orders_wider (Attach kind) m requested h = h
  orders_wider PrintIds m requested h = h
  orders_wider ShowAll m requested h = h
  orders_wider (ShowFrom x count) m requested h = h
  orders_wider (Rewrite names proved limit) m requested h = h
  orders_wider (Trace names proved limit) m requested h = h
  orders_wider (Fired names proved limit) m requested h = h
  orders_wider (TraceConvert target) m requested h = h
  orders_wider (CanonAt x limit) m requested h = h
  orders_wider (Why x name) m requested h = h
  orders_wider (ReportOf kind subject) m requested h = h

  bytes_wider : (session_command : SessionCommand) (m : Module) (response : Response) (shows : Shows) → session_command_bytes setting session_command m response shows ≡ session_command_bytes wider session_command m response shows
  bytes_wider (Attach kind) m response shows = refl
  bytes_wider PrintIds m response shows = refl
  bytes_wider ShowAll m response shows = refl
  bytes_wider (ShowFrom x count) m response shows = refl
  bytes_wider (ReportOf kind subject) m response shows = refl
  bytes_wider (Rewrite names proved limit) m response shows = refl
  bytes_wider (Trace names proved limit) m response shows = refl
  bytes_wider (Fired names proved limit) m response shows = refl
  bytes_wider (TraceConvert target) m response shows = refl
  bytes_wider (CanonAt x limit) m response shows = refl
  bytes_wider (Why x name) m response shows = refl

  next_to_wider : (own : Option (Kept × ℕ)) (s : State) (said : Command) (response : Response) (shows : List ℕ) (t : State) → RunsPatternCommand setting.session_options own s said response shows t → RunsPatternCommand wider.session_options own s said response shows t
  next_to_wider None s said response shows t h = record { requested = h.requested; shows = h.shows; asks = asks_wider said s.held h.requested h.asks; follows = h.follows; text = h.text }
  next_to_wider (Some p) s said response shows t h = h

  fulfils_wider : (s : State) (session_command : SessionCommand) (response : Response) (shows : List ℕ) (t : State) → RunsSessionCommand setting s session_command response shows t → RunsSessionCommand wider s session_command response shows t
  fulfils_wider s session_command response shows t h = record { requested = h.requested; shows = h.shows; asks = orders_wider session_command s.held h.requested h.asks; follows = h.follows; text = h.text ∙ bytes_wider session_command s.held response h.shows }

  list_command_trace_wider : (form : TraceForm) (registry : RegistryModel) (x : ListCommand) (m : Module) (response : Response) → list_command_trace form setting.session_options registry x m response ≡ list_command_trace form wider.session_options registry x m response
  list_command_trace_wider Off registry x m response = refl
  list_command_trace_wider EachRewrite registry x m response = refl
  list_command_trace_wider Counts registry x m response = refl

  list_command_bytes_wider : (registry : RegistryModel) (x : ListCommand) (m : Module) (response : Response) → list_command_bytes setting.session_options registry x m response ≡ list_command_bytes wider.session_options registry x m response
  list_command_bytes_wider registry x m response = ap (λ (trace : List ℕ). bytes_if (is_accepted response) (unproved_of registry x.names m.tree ++ trace)) (list_command_trace_wider x.trace registry x m response)

  rule_list_wider : (registry : RegistryModel) (own : Option ListCommand) (s : State) (session_command : SessionCommand) (response : Response) (shows : List ℕ) (t : State) → RunsListCommand setting registry own s session_command response shows t → RunsListCommand wider registry own s session_command response shows t
  rule_list_wider registry None s session_command response shows t h = fulfils_wider s session_command response shows t h
  rule_list_wider registry (Some x) s session_command response shows t h = go (is_unproved registry x s.held) h
    where
      go : (b : Bool) → AnswersRuleListUnless b setting.session_options registry x s response shows t → AnswersRuleListUnless b wider.session_options registry x s response shows t
      go true h = h
      go false h = record { requested = h.requested; asks = h.asks; follows = h.follows; text = h.text ∙ list_command_bytes_wider registry x s.held response }

  named_wider : (registry : RegistryModel) (own : Option (Kept × ℕ)) (s : State) (session_command : SessionCommand) (response : Response) (shows : List ℕ) (t : State) → RunsNamedCommand setting registry own s session_command response shows t → RunsNamedCommand wider registry own s session_command response shows t
  named_wider registry None s session_command response shows t h = rule_list_wider registry (list_command_of session_command registry) s session_command response shows t h
  named_wider registry (Some p) s session_command response shows t h = h

  replies_wider : (s : Sitting) (spoken : Spoken) (notice : Notice) (shows : List ℕ) (t : Sitting) → Replies setting s spoken notice shows t → Replies wider s spoken notice shows t
  replies_wider s Nothing notice shows t h = absurd h
  replies_wider s Bad notice shows t h = h
  replies_wider s (Ordered session_command) notice shows t (response, is, h, stays) = (response, is, named_wider s.registry (asked_pattern session_command s.registry) s.state session_command response shows t.state h, stays)
  replies_wider s (Obey said) notice shows t (response, is, h, stays) = (response, is, next_to_wider (registered_pattern_of said s.registry) s.state said response shows t.state h, stays)
  replies_wider s (Registered session_command) notice shows t h = h

  module _ (Rest More : ℕ → Sitting → ℕ → List ℕ → Type 0) (goes_on : (m : ℕ) (t : Sitting) (st : ℕ) (o : List ℕ) → Rest m t st o → More m t st o) where
    replied_wider : (n : ℕ) (s : Sitting) (expected : Option Refusal) (spoken : Spoken) (status : ℕ) (out : List ℕ) → Replied Rest setting n s expected spoken status out → Replied More wider n s expected spoken status out
    replied_wider n s expected spoken status out h = record {
      notice = h.notice;
      shows = h.shows;
      after = h.after;
      text = h.text;
      later = h.later;
      rest = h.rest;
      replies = replies_wider s spoken h.notice h.shows h.after h.replies;
      replied = h.replied;
      full = λ refusal offset is. (let least = h.full refusal offset is in omega (arith, least, longer));
      goes_on = goes_on (n + 1) h.after h.later h.rest h.goes_on;
      status_is = h.status_is;
      out_is = h.out_is;
    }

    pub line_wider : (n : ℕ) (s : Sitting) (expected : Option Refusal) (spoken : Spoken) (status : ℕ) (out : List ℕ) → Line Rest setting n s expected spoken status out → Line More wider n s expected spoken status out
    line_wider n s expected Nothing status out h = goes_on n s status out h
    line_wider n s expected Bad status out h = replied_wider n s expected Bad status out h
    line_wider n s expected (Obey said) status out h = replied_wider n s expected (Obey said) status out h
    line_wider n s expected (Ordered session_command) status out h = replied_wider n s expected (Ordered session_command) status out h
    line_wider n s expected (Registered session_command) status out h = replied_wider n s expected (Registered session_command) status out h
