use Rattle.std.proofs.Common.{◌-◌, ◌∙◌, List, length, take, drop, sym}
use Rattle.std.specs.Prelude.{IfSome}
use Rattle.std.proofs.lemmas.Option.{IfSome_then}
use Rattle.ir_types.proofs.Truths.{uncons}
use Rattle.ir_text_names.specs.declared.bound.TypedValue.{TypedValue}
use Rattle.ir_text_operations.specs.OpReading.{bound_types}
use Rattle.ir_text_operations.specs.ScalarSignatures.{AreMoreInputsAt}
use Rattle.ir_text_operations.proofs.ScalarTypes.{alone, last_of, before_of}
use Rattle.ir_text_operations.proofs.scalar_signature.+after_more_inputs.Goals as goal

pub returns-then-is_empty : goal.returns-then-is_empty
returns-then-is_empty t c =
    let split = alone c.args.operands.now c.operand-item.result _ c.in-len1-up.len_at_least c.operand-item.is (sym c.is_empty.ensures ∙ c.if-is_empty.true) in
    last_of c.args.ctx.now c.args.bytes.now c.in-Some.rest.now c.args.operands.now c.operand-item.result c.in-Some.ensures c.in-Some-after.end.now split (sym c.in-Some-after.ensures)

pub returns : goal.returns
returns t c =
    let tail : List TypedValue = take (length c.args.operands.now - 1) (drop 1 c.args.operands.now) in
    let split = uncons c.args.operands.now c.operand-item.result _ c.in-len1-up.len_at_least c.operand-item.is in
    let others : IfSome c.after_more_inputs.result (λ r. AreMoreInputsAt c.args.ctx.now c.in-Some-after-2.rest.now (bound_types tail) r.now) = c.after_more_inputs.ensures in
    IfSome_then c.after_more_inputs.result others
    (λ r more. before_of c.args.ctx.now c.args.bytes.now c.in-Some.rest.now c.args.operands.now c.operand-item.result c.in-Some.ensures r.now tail c.in-Some-after-2.rest.now split (sym c.in_default-after.ensures) (sym c.in-Some-after-2.ensures) more)
