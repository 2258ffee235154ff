-- The line of a response, with a note on a refusal.
use Rattle.std.specs.Prelude.{ℕ, List, [], ◌∷◌, ◌++◌, Option, codes}
use Rattle.std.specs.Fmt.{decimal}
use Rattle.ir_event.specs.types.Refusals.{text_of}
use Rattle.ir_event.specs.types.declared.refusal.Refusal.{Refusal}
use Rattle.rewriter_machine.specs.Commands.{Response, Replied, TextRefusedAt}
use Rattle.rewriter_machine.specs.Machine.{Done, DoneAs, DoneWith, Refused, RefusedOn}
use Rattle.mlir_work_registry.specs.Notices.{Notice, Simple, Checked}
use Rattle.mlir_work_registry.specs.ReplyLines.{checked_line, reply_line, reply_text, surprise_line}

-- `1 refused 22 HasUses`
abbrev pub refused_preceding : ℕ → Refusal → List ℕ
refused_preceding n refusal = decimal n ++ (codes " refused " ++ text_of refusal)

-- `1 refused 13 LeftOut at 14`
abbrev pub refused_at_preceding : ℕ → Refusal → ℕ → List ℕ
refused_at_preceding n refusal offset = decimal n ++ (codes " refused " ++ (text_of refusal ++ (codes " at " ++ decimal offset)))

-- the line of the reply to command `n`; only a refusal has a note, after its word or its offset
abbrev pub explained_reply : ℕ → Response → List ℕ → List ℕ
explained_reply n (Replied (Refused refusal)) about = refused_preceding n refusal ++ (about ++ codes "\n")
explained_reply n (TextRefusedAt refusal offset) about = refused_at_preceding n refusal offset ++ (about ++ codes "\n")
explained_reply n (Replied Done) about = reply_line n (Replied Done)
explained_reply n (Replied (DoneAs x)) about = reply_line n (Replied (DoneAs x))
explained_reply n (Replied (DoneWith outcome)) about = reply_line n (Replied (DoneWith outcome))
explained_reply n (Replied (RefusedOn refusal x)) about = reply_line n (Replied (RefusedOn refusal x))

abbrev pub explained_line : ℕ → Notice → List ℕ → List ℕ
explained_line n (Simple response) about = explained_reply n response about
explained_line n (Checked said) about = checked_line n said

-- the lines of the response to command `n`, with the expected refusal; an empty note adds nothing
abbrev pub response_lines : ℕ → Option Refusal → Notice → List ℕ → List ℕ
response_lines n expected notice [] = reply_text n expected notice
response_lines n expected notice (b ∷ bs) = explained_line n notice (b ∷ bs) ++ surprise_line n expected notice
