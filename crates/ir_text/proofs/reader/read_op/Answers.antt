use Rattle.std.proofs.Common.{◌≡◌, ℕ, length}
use Rattle.std.specs.Prelude.{Result, Err}
use Rattle.ir_tree.specs.Tree.{Op}
use Rattle.ir_text_types.specs.declared.error.ReadError.{ReadError as Inner}
use Rattle.ir_text_types.specs.declared.error.ReadError.TheVariants as inner
use Rattle.ir_text_types.specs.Laws.{IsFull}
use Rattle.ir_text_operations.specs.Free.{free_term}
use Rattle.ir_text_operations.specs.Spelling.{SpellsOp}
use Rattle.ir_text_operations.specs.Claims.{IsNone}
use Rattle.ir_text.proofs.Errors.{refused_so, full_so, text_visited, reported_of_op}
use Rattle.ir_text.proofs.reader.read_op.Goals as goal

pub returns-in-Err-Text-clause-refused : goal.returns-in-Err-Text-clause-refused
returns-in-Err-Text-clause-refused g c =
    refused_so {X = Op} (length c.args.bytes.now) c.in-Err-Text.e c.at.result (IsNone (SpellsOp c.args.ctx.now.opaque (free_term (g.O.Outer.types c.args.outer.now) c.args.ctx.now) (g.O.Outer.next c.args.outer.now) c.args.bytes.now))
    (λ f k. c.in-Err-Text.ensures.refused f (text_visited c.in-Err-Text.field-0 c.in-Err-Text.e (inner.Refused f) c.in-Err-Text.field-0-is k)) c.at.ensures.is

pub returns-in-Err-Text-clause-reported : goal.returns-in-Err-Text-clause-reported
returns-in-Err-Text-clause-reported g c = reported_of_op c.args.bytes.now c.at.result c.at.ensures.reported

pub returns-in-Err-Text-clause-full : goal.returns-in-Err-Text-clause-full
returns-in-Err-Text-clause-full g c =
    full_so {X = Op} (length c.args.bytes.now) c.in-Err-Text.e c.at.result (IsFull c.read_op.new.ctx)
    (λ left k. c.in-Err-Text.ensures.full left (text_visited c.in-Err-Text.field-0 c.in-Err-Text.e (inner.Full left) c.in-Err-Text.field-0-is k)) c.at.ensures.is
