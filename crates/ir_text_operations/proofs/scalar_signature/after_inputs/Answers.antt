use Rattle.std.proofs.Common.{◌∙◌, length, sym}
use Rattle.std.proofs.lemmas.Bool.{eqb-true}
use Rattle.std.proofs.lemmas.Option.{IfSome_then}
use Rattle.ir_text_operations.proofs.ScalarTypes.{none_of, some_of}
use Rattle.ir_text_operations.proofs.scalar_signature.after_inputs.Goals as goal

pub returns-then-is_empty : goal.returns-then-is_empty
returns-then-is_empty c =
    none_of c.args.ctx.now c.args.bytes.now c.args.operands.now c.in-Some.end.now (eqb-true (length c.args.operands.now) 0 (sym c.is_empty.ensures ∙ c.if-is_empty.true)) (sym c.in-Some.ensures)

pub returns : goal.returns
returns c =
    IfSome_then c.after_more_inputs.result c.after_more_inputs.ensures
    (λ r inputs. some_of c.args.ctx.now c.args.bytes.now c.args.operands.now r.now (sym c.in_default.ensures) c.if-operands-gt-MOST_ITEMS.false inputs)
