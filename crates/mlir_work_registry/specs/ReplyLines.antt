-- The lines of responses.
use Rattle.std.specs.Prelude.{ℕ, List, [], ◌++◌, Option, Some, None, if◌then◌else◌, codes}
use Rattle.std.specs.Fmt.{decimal}
use Rattle.ir_event.specs.types.declared.refusal.Refusal.{Refusal}
use Rattle.rewriter_machine.specs.Commands.{Response, Replied, TextRefusedAt}
use Rattle.rewriter_machine.specs.Machine.{Done, DoneAs, DoneWith, Refused, RefusedOn}
use Rattle.mlir_work_script.specs.Replies.{expected_line, ok_line, made_line, outcome_line, refused_line, refused_on_line, refused_at_line}
use Rattle.user_patterns_registry.specs.Rows.{said_text}
use Rattle.user_patterns_registry.specs.declared.check_result.CheckSummary.{CheckSummary}
use Rattle.mlir_work_registry.specs.Notices.{Notice, Simple, Checked, refuses_for}

-- the line of the reply to command n
abbrev pub reply_line : ℕ → Response → List ℕ
reply_line n (Replied Done) = ok_line n
reply_line n (Replied (DoneAs x)) = made_line n x
reply_line n (Replied (DoneWith outcome)) = outcome_line n outcome
reply_line n (Replied (Refused refusal)) = refused_line n refusal
reply_line n (Replied (RefusedOn refusal x)) = refused_on_line n refusal x
reply_line n (TextRefusedAt refusal offset) = refused_at_line n refusal offset

-- `1 holds 8`, `1 holds`, `1 empty 8`, `1 fails 2`, `1 unrefuted 32`
abbrev pub checked_line : ℕ → CheckSummary → List ℕ
checked_line n said = decimal n ++ (codes " " ++ (said_text said ++ codes "\n"))

-- the line of a response
abbrev pub notice_line : ℕ → Notice → List ℕ
notice_line n (Simple response) = reply_line n response
notice_line n (Checked said) = checked_line n said

-- the line below a response that isn't the expected refusal
abbrev pub surprise_line : ℕ → Option Refusal → Notice → List ℕ
surprise_line n None notice = []
surprise_line n (Some wanted) notice = if refuses_for wanted notice then [] else expected_line n wanted

-- the lines of the response to command `n`, with the expected refusal
abbrev pub reply_text : ℕ → Option Refusal → Notice → List ℕ
reply_text n expected notice = notice_line n notice ++ surprise_line n expected notice
