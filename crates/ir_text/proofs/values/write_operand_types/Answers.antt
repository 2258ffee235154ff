use Rattle.std.proofs.Common.{ap, refl, map, List}
use Rattle.std.specs.Prelude.{codes}
use Rattle.ir_tree.specs.declared.value.Value.{Value}
use Rattle.ir_text.specs.TypeText.{type_texts}
use Rattle.ir_text.specs.Naming.{value_type}
use Rattle.ir_text_types.specs.TypeGrammar.{types_of}
use Rattle.ir_text.specs.View.{named_in}
use Rattle.ir_text.proofs.Rows.{one_more, no_more}
use Rattle.ir_text.proofs.values.write_operand_types.Goals as goal
use Rattle.ir_tree.proofs.Steps.{next_left}

pub operands-preserved : goal.operands-preserved
operands-preserved c =
    let next = next_left c.args.operands.now c.operands.operand-index c.operand-item.result c.operands-test.true c.operand-item.is in
    one_more (codes ", ") _ _ _ _ _ c.operands.first _ _ (ap (λ (vs : List Value). type_texts (types_of (map (value_type (named_in c.args.ctx.now c.args.named.now.entries)) vs))) next) c.in_ok-write_between.ensures c.in_ok-write_value_type.ensures c.operands.invariant

pub returns : goal.returns
returns c = no_more (codes ", ") _ _ c.operands.first (λ vs. type_texts (types_of (map (value_type (named_in c.args.ctx.now c.args.named.now.entries)) vs))) c.args.operands.now c.operands.operand-index c.operands-test.false refl c.operands.invariant
