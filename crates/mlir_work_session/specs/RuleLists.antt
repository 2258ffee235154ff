-- Session commands with a pattern registry: a rule list that names a registered pattern rewrites by rules and
-- patterns. Any other session command runs as without a registry.
use Rattle.std.specs.Prelude.{◌≡◌, ◌==◌, ◌&&◌, ◌⊎◌, is_some, ℕ, List, [], ◌++◌, length, Bool, true, false, not, Option, Some, None, if◌then◌else◌}
use Rattle.ir_event.specs.types.declared.refusal.Refusal.{Refusal}
use Rattle.ir_event.specs.types.declared.refusal.Refusal.TheVariants.{Memory, NotProved}
use Rattle.ir_event.specs.Modules.{Module}
use Rattle.mlir_work_transforms.specs.rewriter.Commands.{Replied, Response, RuleName}
use Rattle.mlir_work_transforms.specs.rewriter.Machine.{Refused, State, Transformation}
use Rattle.mlir_work_script.specs.SessionCommands.{Fired, SessionCommand, Rewrite, Trace}
use Rattle.mlir_work_transforms.specs.registry.Replies.{is_accepted}
use Rattle.mlir_work_transforms.specs.registry.Registry.{RegistryModel}
use Rattle.mlir_work_transforms.specs.FiredText.{rule_list_fired}
use Rattle.mlir_work_transforms.specs.RuleLists.{all_listed, rule_list_trace, rule_list_transformation, names_user_pattern}
use Rattle.mlir_work_transforms.specs.Unproved.{unproved_of}
use Rattle.mlir_work_session.specs.declared.options.SessionOptions.{SessionOptions}
use Rattle.mlir_work_transforms.specs.declared.trace_form.TraceForm.{TraceForm}
use Rattle.mlir_work_transforms.specs.declared.trace_form.TraceForm.TheVariants.{Counts, EachRewrite, Off}
use Rattle.mlir_work_session.specs.Machine.{IsContextFull, RunsSessionCommand, SessionSetting, limit_or, bytes_if}
use Rattle.mlir_work_session.specs.Rewrites.{Rewrites}

-- a rule list that names a registered pattern, whether the command is refused if no check proves one of the patterns,
-- its limit, and the form of its trace
pub record ListCommand : Type 0 where
  pub names : List RuleName
  pub proved : Bool
  pub limit : Option ℕ
  pub trace : TraceForm

abbrev pub list_command_if : Bool → ListCommand → Option ListCommand
list_command_if own x = if own then Some x else None

-- the rule list of a session command, if the list names a registered pattern
abbrev pub list_command_of : SessionCommand → RegistryModel → Option ListCommand
list_command_of (Rewrite names proved limit) registry =
    list_command_if (names_user_pattern registry names) (record { names = names; proved = proved; limit = limit; trace = Off })
list_command_of (Trace (Some names) proved limit) registry =
    list_command_if (names_user_pattern registry names) (record { names = names; proved = proved; limit = limit; trace = EachRewrite })
list_command_of (Fired (Some names) proved limit) registry =
    list_command_if (names_user_pattern registry names) (record { names = names; proved = proved; limit = limit; trace = Counts })
list_command_of _ registry = None

-- the transformation of a rule list
abbrev pub list_command_change : SessionOptions → RegistryModel → ListCommand → Option Transformation
list_command_change session_options registry x = rule_list_transformation registry x.names (limit_or session_options.limit x.limit)

-- the trace of the rewrites: none, a line for each, or the counts of a run that stopped by its limit
abbrev pub list_command_trace : TraceForm → SessionOptions → RegistryModel → ListCommand → Module → Response → List ℕ
list_command_trace Off session_options registry x m response = []
list_command_trace EachRewrite session_options registry x m response = rule_list_trace (all_listed registry x.names) (limit_or session_options.limit x.limit) m
list_command_trace Counts session_options registry x m response = rule_list_fired (all_listed registry x.names) (limit_or session_options.limit x.limit) m response

-- the bytes below an accepted reply: a line for each pattern of the list that no check proves for the module before
-- the rewrite, and then the trace
abbrev pub list_command_bytes : SessionOptions → RegistryModel → ListCommand → Module → Response → List ℕ
list_command_bytes session_options registry x m response =
    bytes_if (is_accepted response) (unproved_of registry x.names m.tree ++ list_command_trace x.trace session_options registry x m response)

-- a rewrite by a rule list
abbrev pub AnswersRuleList : SessionOptions → RegistryModel → ListCommand → State → Response → List ℕ → State → Type 0
AnswersRuleList session_options registry x s response bytes t =
    Rewrites (list_command_change session_options registry x) (list_command_bytes session_options registry x s.held) s response bytes t

-- whether a command that asks for proved patterns is refused: each name resolves, and a line names a pattern that no
-- check proves for the module
abbrev pub is_unproved : RegistryModel → ListCommand → Module → Bool
is_unproved registry x m =
    x.proved && (is_some (all_listed registry x.names) && not (length (unproved_of registry x.names m.tree) == 0))

abbrev pub IsRefusedWith : Refusal → List ℕ → State → Response → List ℕ → State → Type 0
IsRefusedWith refusal lines s response bytes t = (response ≡ Replied (Refused refusal)) × (bytes ≡ lines) × (t ≡ s)

-- the command is refused with these lines below the reply, or memory runs out before they are written
abbrev pub RefusesUnproved : RegistryModel → ListCommand → State → Response → List ℕ → State → Type 0
RefusesUnproved registry x s response bytes t =
    IsRefusedWith Memory [] s response bytes t ⊎ IsRefusedWith NotProved (unproved_of registry x.names s.held.tree) s response bytes t

abbrev pub AnswersRuleListUnless : Bool → SessionOptions → RegistryModel → ListCommand → State → Response → List ℕ → State → Type 0
AnswersRuleListUnless true session_options registry x s response bytes t = RefusesUnproved registry x s response bytes t
AnswersRuleListUnless false session_options registry x s response bytes t = AnswersRuleList session_options registry x s response bytes t

abbrev pub RunsListCommand : SessionSetting → RegistryModel → Option ListCommand → State → SessionCommand → Response → List ℕ → State → Type 0
RunsListCommand setting registry None s session_command response bytes t = RunsSessionCommand setting s session_command response bytes t
RunsListCommand setting registry (Some x) s session_command response bytes t =
    AnswersRuleListUnless (is_unproved registry x s.held) setting.session_options registry x s response bytes t

-- when a rule list may be refused with 31
abbrev pub ListCommandHeadroom : Type 0 → SessionOptions → RegistryModel → ListCommand → State → Response → Type 0
ListCommandHeadroom full session_options registry x s response =
    (f : Transformation) → list_command_change session_options registry x ≡ Some f → IsContextFull full s f response
