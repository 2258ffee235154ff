use Rattle.std.proofs.Common.{ap, refl, map}
use Rattle.std.specs.Prelude.{codes}
use Rattle.ir_text.specs.Naming.{value_text}
use Rattle.ir_text.specs.View.{named_in}
use Rattle.ir_text.proofs.Rows.{one_more, no_more}
use Rattle.ir_text.proofs.values.write_values.Goals as goal
use Rattle.ir_tree.proofs.Steps.{next_left}

pub operands-preserved : goal.operands-preserved
operands-preserved c = λ d.
    let texts = map (value_text (named_in d c.args.named.now.entries)) in
    let next = next_left c.args.operands.now c.operands.operand-index c.operand-item.result c.operands-test.true c.operand-item.is in
    one_more (codes ", ") _ _ _ _ _ c.operands.first _ _ (ap texts next) c.in_ok-write_between.ensures (c.in_ok-write_value.ensures d) (c.operands.invariant d)

pub returns : goal.returns
returns c = λ d. no_more (codes ", ") _ _ c.operands.first (map (value_text (named_in d c.args.named.now.entries))) c.args.operands.now c.operands.operand-index c.operands-test.false refl (c.operands.invariant d)
