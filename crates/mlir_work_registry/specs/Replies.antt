-- The replies to commands.
use Rattle.std.specs.Prelude.{◌≡◌, ℕ, ◌≤◌, Bool, true, false, ◌==◌}
use Rattle.ir_event.specs.types.Refusals.{number_of}
use Rattle.ir_event.specs.types.declared.refusal.Refusal.{Refusal}
use Rattle.rewriter_machine.specs.Commands.{Response, Replied, TextRefusedAt}
use Rattle.rewriter_machine.specs.Machine.{Done, DoneAs, DoneWith, Refused, RefusedOn}
use Rattle.mlir_work_script.specs.Outcomes.{outcome_of}
use Rattle.mlir_work_registry.specs.declared.reply.Reply.{Reply}
use Rattle.mlir_work_registry.specs.declared.reply.Reply.TheVariants as code

abbrev pub response_of : Reply → Response
response_of code.Done = Replied Done
response_of (code.DoneWithOp x) = Replied (DoneAs x)
response_of (code.DoneWithOutcome outcome) = Replied (DoneWith (outcome_of outcome))
response_of (code.Refused refusal) = Replied (Refused refusal)
response_of (code.RefusedOn refusal x) = Replied (RefusedOn refusal x)
response_of (code.RefusedAt refusal offset) = TextRefusedAt refusal offset

-- whether the command was accepted
abbrev pub is_accepted : Response → Bool
is_accepted (Replied Done) = true
is_accepted (Replied (DoneAs x)) = true
is_accepted (Replied (DoneWith outcome)) = true
is_accepted (Replied (Refused refusal)) = false
is_accepted (Replied (RefusedOn refusal x)) = false
is_accepted (TextRefusedAt refusal offset) = false

-- whether two refusals are the same
abbrev pub same_refusal : Refusal → Refusal → Bool
same_refusal wanted refusal = number_of wanted == number_of refusal

-- whether the command was refused for this reason
abbrev pub is_refused_for : Refusal → Response → Bool
is_refused_for wanted (Replied Done) = false
is_refused_for wanted (Replied (DoneAs x)) = false
is_refused_for wanted (Replied (DoneWith outcome)) = false
is_refused_for wanted (Replied (Refused refusal)) = same_refusal wanted refusal
is_refused_for wanted (Replied (RefusedOn refusal x)) = same_refusal wanted refusal
is_refused_for wanted (TextRefusedAt refusal offset) = same_refusal wanted refusal

-- the offset of a refused text is within the input or at its end
abbrev pub IsBounded : ℕ → Response → Type 0
IsBounded bytes response = (refusal : Refusal) (offset : ℕ) → response ≡ TextRefusedAt refusal offset → offset ≤ bytes
