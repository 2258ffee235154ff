-- Scripts that only print the module, and so need no analysis.
use Rattle.std.specs.Prelude.{◌≡◌, ℕ, List, [], ◌∷◌, Bool, true, false, not, ◌&&◌, ◌⊎◌, is_none}
use Rattle.std.specs.List.{list_all}
use Rattle.ir_event.specs.types.declared.refusal.Refusal.TheVariants.{Memory}
use Rattle.ir_event.specs.trees.Meaning.{Operation}
use Rattle.ir_event.specs.Listener.{Listener}
use Rattle.ir_event.specs.Panels.{has_kind}
use Rattle.ir_text.specs.Printing.{text_of}
use Rattle.mlir_work_transforms.specs.rewriter.Commands.{Command, Print}
use Rattle.mlir_work_script.specs.Commands.{Spoken, Nothing, Bad, Obey, Ordered, Registered, line_says}
use Rattle.mlir_work_script.specs.Expecting.{line_expects}
use Rattle.mlir_work_transforms.specs.registry.declared.reply.Reply.{Reply}
use Rattle.mlir_work_transforms.specs.registry.declared.reply.Reply.TheVariants.{Done, Refused}

-- whether a command prints the module
abbrev pub is_print : Command → Bool
is_print Print = true
is_print _ = false

-- whether a line is empty or prints the module
abbrev pub prints_alone : Spoken → Bool
prints_alone Nothing = true
prints_alone Bad = false
prints_alone (Obey command) = is_print command
prints_alone (Ordered session_command) = false
prints_alone (Registered session_command) = false

-- whether a line is empty or prints the module, and expects no refusal
abbrev pub line_prints : List ℕ → Bool
line_prints line = is_none (line_expects line) && prints_alone (line_says line)

-- whether all lines do
abbrev pub all_print : List (List ℕ) → Bool
all_print lines = list_all line_prints lines

-- whether all listeners have different kinds; `B` is a type of listeners, and `meaning` gives the meaning of each
abbrev pub kinds_apart : {B : Type 0} → (B → Listener) → List B → Bool
kinds_apart meaning [] = true
kinds_apart meaning (b ∷ bs) = not (has_kind meaning (meaning b).kind bs) && kinds_apart meaning bs

-- the text of the module is shown, or memory ran out
abbrev pub IsPrinted : Operation → Reply → List ℕ → Type 0
IsPrinted t reply shows = ((reply ≡ Done) × (shows ≡ text_of t)) ⊎ ((reply ≡ Refused Memory) × (shows ≡ []))
