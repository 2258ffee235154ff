-- The state of a session between two lines: a rewriter and a registry of user patterns.
use Rattle.std.specs.Prelude.{◌≡◌, ℕ, List, Option, Some, None, option_map}
use Rattle.ir_event.specs.Listener.{Listener}
use Rattle.mlir_work_transforms.specs.rewriter.RewriterCalls.{Benched, state_of}
use Rattle.mlir_work_transforms.specs.rewriter.Commands.{Apply, Ask, Command, Follows, Response}
use Rattle.mlir_work_transforms.specs.rewriter.Machine as call
use Rattle.mlir_work_transforms.specs.rewriter.Machine.{Nothing, State}
use Rattle.mlir_work_transforms.specs.Applying.{applying_user_pattern}
use Rattle.mlir_work_transforms.specs.registry.Notices.{Notice, Simple}
use Rattle.mlir_work_transforms.specs.registry.Replies.{is_accepted}
use Rattle.mlir_work_transforms.specs.registry.Registry.{RegistryModel, Kept, registry_model}
use Rattle.mlir_work_transforms.specs.registry.PatternRegistry.{PatternRegistry as RegistryCode}
use Rattle.mlir_work_transforms.specs.RuleLists.{pattern_named}
use Rattle.mlir_work_transforms.specs.Unproved.{unproved_one}
use Rattle.mlir_work_session.specs.declared.options.SessionOptions.{SessionOptions}
use Rattle.mlir_work_session.specs.Machine.{AsksHeadroom, IsContextFull, RunsCommand, bytes_if}

pub record Sitting : Type 0 where
  pub state : State
  pub registry : RegistryModel

-- the state in which a session starts
abbrev pub opening : RegistryModel → State → Sitting
opening registry s = record { state = s; registry = registry }

-- the session state of a rewriter and a registry in memory
abbrev pub sitting_of : {B : Type 0} → (B → Listener) → Benched B → RegistryCode → Sitting
sitting_of meaning bench registry = record { state = state_of meaning bench; registry = registry_model registry }

-- the registered pattern that a command names, and the operation at which the command applies it
abbrev pub registered_pattern_of : Command → RegistryModel → Option (Kept × ℕ)
registered_pattern_of (Apply name x) registry = option_map (λ k. (k, x)) (pattern_named name registry)
registered_pattern_of _ registry = None

-- a pattern is applied at an operation, as a rule is; if no check proves the pattern for the module before, a line
-- below an accepted reply says so
abbrev pub AppliesUserPattern : Kept → ℕ → State → Response → List ℕ → State → Type 0
AppliesUserPattern k x s response bytes t =
    Follows s (Ask (call.Change (applying_user_pattern k.rewrite_pattern x))) response Nothing t
    × (bytes ≡ bytes_if (is_accepted response) (unproved_one k s.held.tree))

-- a command that names a registered pattern applies the pattern; any other command runs as without a registry
abbrev pub RunsPatternCommand : SessionOptions → Option (Kept × ℕ) → State → Command → Response → List ℕ → State → Type 0
RunsPatternCommand session_options None s command response bytes t = RunsCommand session_options s command response bytes t
RunsPatternCommand session_options (Some p) s command response bytes t = AppliesUserPattern p.0 p.1 s response bytes t

-- when the command may be refused with 31
abbrev pub NextToHeadroom : Type 0 → SessionOptions → Option (Kept × ℕ) → State → Command → Response → Type 0
NextToHeadroom full session_options None s command response = AsksHeadroom full session_options s command response
NextToHeadroom full session_options (Some p) s command response = IsContextFull full s (applying_user_pattern p.0.rewrite_pattern p.1) response

-- the rewriter runs the command, and the registry doesn't change
abbrev pub ByRewriter : (Response → State → Type 0) → Sitting → Notice → Sitting → Type 0
ByRewriter Does s notice t = (response : Response) × (notice ≡ Simple response) × Does response t.state × (t.registry ≡ s.registry)
