-- Session commands with a pattern registry: `why` with the name of a registered pattern says why the pattern doesn't
-- match. Any other session command runs as a list of rules and patterns does, or as without a registry.
use Rattle.std.specs.Prelude.{◌≡◌, ℕ, List, Bool, true, false, Option, Some, None, option_map}
use Rattle.ir_event.specs.types.declared.refusal.Refusal.TheVariants.{NoSuchOp}
use Rattle.ir_event.specs.trees.Ids.{has_id}
use Rattle.mlir_work_transforms.specs.rewriter.Commands.{Ask, Follows, Misplaced, Requested, Response}
use Rattle.mlir_work_transforms.specs.rewriter.Machine as call
use Rattle.mlir_work_transforms.specs.rewriter.Machine.{Shows, State}
use Rattle.mlir_work_script.specs.SessionCommands.{SessionCommand, Why}
use Rattle.mlir_work_transforms.specs.registry.Replies.{is_accepted}
use Rattle.mlir_work_transforms.specs.registry.Registry.{Kept, RegistryModel}
use Rattle.mlir_work_transforms.specs.RuleLists.{pattern_named}
use Rattle.mlir_work_transforms.specs.WhyPattern.{why_pattern}
use Rattle.mlir_work_session.specs.Machine.{SessionSetting, bytes_if}
use Rattle.mlir_work_session.specs.RuleLists.{RunsListCommand, list_command_of}

-- the registered pattern that a `why` names, and its operation
abbrev pub asked_pattern : SessionCommand → RegistryModel → Option (Kept × ℕ)
asked_pattern (Why x (Some name)) registry = option_map (λ k. (k, x)) (pattern_named name registry)
asked_pattern _ registry = None

-- a missing operation is refused with `NoSuchOp`
abbrev pub AsksThere : Bool → Requested → Type 0
AsksThere true requested = requested ≡ Ask call.Print
AsksThere false requested = requested ≡ Misplaced NoSuchOp

-- from state `s` a `why` of a pattern may get this response, with these bytes below the reply, and lead to state `t`
pub record AnswersWhyPattern (k : Kept) (x : ℕ) (s : State) (response : Response) (bytes : List ℕ) (t : State) : Type 0 where
  pub requested : Requested
  pub shows : Shows
  pub asks : AsksThere (has_id x s.held.tree) requested
  pub follows : Follows s requested response shows t
  pub text : bytes ≡ bytes_if (is_accepted response) (why_pattern k s.held x)

abbrev pub RunsNamedCommand : SessionSetting → RegistryModel → Option (Kept × ℕ) → State → SessionCommand → Response → List ℕ → State → Type 0
RunsNamedCommand setting registry None s session_command response bytes t =
    RunsListCommand setting registry (list_command_of session_command registry) s session_command response bytes t
RunsNamedCommand setting registry (Some p) s session_command response bytes t = AnswersWhyPattern p.0 p.1 s response bytes t
