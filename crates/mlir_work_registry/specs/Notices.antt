-- The responses to lines: the reply to a command, or the summary of a pattern check.
use Rattle.std.specs.Prelude.{◌≡◌, ℕ, ◌≤◌, List, Bool, true, false, not, ◌&&◌, codes, nat_eq, Option, Some, None}
use Rattle.std.specs.List.{starts_with}
use Rattle.ir_event.specs.types.declared.refusal.Refusal.{Refusal}
use Rattle.rewriter_machine.specs.Commands.{Replied, Response, TextRefusedAt}
use Rattle.rewriter_machine.specs.Machine.{DoneWith}
use Rattle.user_patterns_registry.specs.declared.check_result.CheckSummary.{CheckSummary}
use Rattle.user_patterns_registry.specs.declared.check_result.CheckSummary.TheVariants as said
use Rattle.mlir_work_registry.specs.Replies.{is_accepted, is_refused_for, response_of}
use Rattle.mlir_work_registry.specs.declared.response.Response.{Response as Coded}
use Rattle.mlir_work_registry.specs.declared.response.Response.TheVariants as code

pub data Notice : Type 0 where
  -- the reply to a command
  Simple : Response → Notice
  -- the summary of a check
  Checked : CheckSummary → Notice

abbrev pub notice_of : Coded → Notice
notice_of (code.RewriterReply reply) = Simple (response_of reply)
notice_of (code.CheckResult reported) = Checked reported

-- whether a check found a counterexample
abbrev pub is_failure : CheckSummary → Bool
is_failure (said.Holds w) = false
is_failure said.AllWidths = false
is_failure (said.Vacuous w) = false
is_failure (said.Fails w) = true
is_failure (said.Sampled w) = false

-- whether the line succeeded: the command was accepted, or the check found no counterexample
abbrev pub is_well : Notice → Bool
is_well (Simple response) = is_accepted response
is_well (Checked reported) = not (is_failure reported)

-- whether a command was refused for this reason
abbrev pub refuses_for : Refusal → Notice → Bool
refuses_for wanted (Simple response) = is_refused_for wanted response
refuses_for wanted (Checked reported) = false

-- whether the response is the expected one: the expected refusal, or success if none is expected
abbrev pub is_right : Option Refusal → Notice → Bool
is_right None notice = is_well notice
is_right (Some wanted) notice = refuses_for wanted notice

-- whether the first line below the reply to a rewriting command names a pattern that no check proves
abbrev pub names_unproved : Notice → List ℕ → Bool
names_unproved (Simple (Replied (DoneWith outcome))) shows = starts_with nat_eq shows (codes "unproved ")
names_unproved _ shows = false

-- whether the response is right; in a strict run, no line below the reply may name a pattern that no check proves
abbrev pub is_right_under : Bool → Option Refusal → Notice → List ℕ → Bool
is_right_under false expected notice shows = is_right expected notice
is_right_under true expected notice shows = is_right expected notice && not (names_unproved notice shows)

-- the offset of a refused text is within the input or at its end
abbrev pub IsWithin : ℕ → Notice → Type 0
IsWithin bytes notice = (refusal : Refusal) (offset : ℕ) → notice ≡ Simple (TextRefusedAt refusal offset) → offset ≤ bytes
