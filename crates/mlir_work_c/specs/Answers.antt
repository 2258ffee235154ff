-- The answers to calls, as numbers.
use Rattle.std.specs.Prelude.{ℕ, Option, Some, None}
use Rattle.ir_event.specs.types.Refusals.{number_of}
use Rattle.ir_event.specs.types.declared.refusal.Refusal.{Refusal}
use Rattle.ir_event.specs.types.declared.refusal.Refusal.TheVariants.{Memory, TooMany}
use Rattle.ir_text.specs.declared.error.ReadError.{ReadError}
use Rattle.ir_text.specs.declared.error.ReadError.TheVariants as error
use Rattle.rewriter.specs.Commands.{Response, Replied, TextRefusedAt}
use Rattle.rewriter.specs.Machine.{Applied, Converged, Converted, Done, DoneAs, DoneWith, Limited, Outcome, Refused, RefusedOn, Swept}
use Rattle.mlir_work_run.specs.session.Notices.{Notice, Simple, Checked}
use Rattle.mlir_work_run.specs.session.CheckSummary.{CheckSummary}
use Rattle.mlir_work_run.specs.session.CheckSummary.TheVariants as said
use Rattle.mlir_work_c.specs.declared.answer.Answer.{Answer}

abbrev of_numbers : ℕ → ℕ → ℕ → ℕ → Answer
of_numbers outcome refusal number shown =
    record { outcome = outcome; refusal = refusal; number = number; shown = shown }

-- the answer to an empty line or a comment
abbrev pub nothing : Answer
nothing = of_numbers 0 0 0 0

-- the answer of a closed handle
abbrev pub closed : Answer
closed = of_numbers 10 0 0 0

-- the answer to a refused call; nothing is shown
abbrev pub refused : Refusal → Answer
refused refusal = of_numbers 7 (number_of refusal) 0 0

-- the answer after a session was opened
abbrev pub opened : Answer
opened = of_numbers 1 0 0 0

-- the answer to an accepted call with a number
abbrev pub counted : ℕ → Answer
counted number = of_numbers 1 0 number 0

-- the answer to a text that isn't read
abbrev pub parse_error_answer : ReadError → Answer
parse_error_answer error.Memory = refused Memory
parse_error_answer (error.Full offset) = of_numbers 9 (number_of TooMany) offset 0
parse_error_answer (error.Refused refusal offset) = of_numbers 9 (number_of refusal) offset 0

-- the answer if no session was opened, with the refused byte of the text if there is one
abbrev pub not_opened : Refusal → Option ℕ → Answer
not_opened refusal None = refused refusal
not_opened refusal (Some offset) = of_numbers 9 (number_of refusal) offset 0

-- the answer to a transformation
abbrev pub came_of : Outcome → ℕ → Answer
came_of (Swept n) shown = of_numbers 3 0 n shown
came_of (Converged n) shown = of_numbers 4 0 n shown
came_of (Limited n) shown = of_numbers 5 0 n shown
came_of (Converted n) shown = of_numbers 6 0 n shown
came_of (Applied n) shown = of_numbers 11 0 n shown

-- the answer for a reply that shows so many bytes
abbrev pub replied_of : Response → ℕ → Answer
replied_of (Replied Done) shown = of_numbers 1 0 0 shown
replied_of (Replied (DoneAs x)) shown = of_numbers 2 0 x shown
replied_of (Replied (DoneWith outcome)) shown = came_of outcome shown
replied_of (Replied (Refused refusal)) shown = of_numbers 7 (number_of refusal) 0 shown
replied_of (Replied (RefusedOn refusal x)) shown = of_numbers 8 (number_of refusal) x shown
replied_of (TextRefusedAt refusal offset) shown = of_numbers 9 (number_of refusal) offset shown

-- the answer for a check; the number is 0 for a pattern that holds at all widths
abbrev pub said_as : CheckSummary → ℕ → Answer
said_as (said.Holds w) shown = of_numbers 12 0 w shown
said_as said.AllWidths shown = of_numbers 12 0 0 shown
said_as (said.Vacuous w) shown = of_numbers 13 0 w shown
said_as (said.Fails w) shown = of_numbers 14 0 w shown
said_as (said.Sampled w) shown = of_numbers 15 0 w shown

-- the answer for a response that shows so many bytes
abbrev pub answer_of : Notice → ℕ → Answer
answer_of (Simple response) shown = replied_of response shown
answer_of (Checked reported) shown = said_as reported shown
