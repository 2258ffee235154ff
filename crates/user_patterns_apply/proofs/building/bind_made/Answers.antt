use Rattle.std.proofs.Common.{refl, ◌+◌}
use Rattle.ir_event.specs.trees.declared.value.Value.TheVariants.{Result}
use Rattle.ir_event.specs.trees.Uses.{same_value}
use Rattle.user_patterns_apply.specs.Built.{operand_in}
use Rattle.user_patterns_apply.specs.declared.rewrite_plan.Operand.TheVariants.{New}
use Rattle.user_patterns_apply.proofs.Binding.{bound_free}
use Rattle.user_patterns_apply.proofs.building.bind_made.Goals as goal

pub returns-in-None : goal.returns-in-None
returns-in-None c =
    bound_free (operand_in c.args.next) same_value c.args.operands.now c.args.place (Result (c.args.next + c.args.number) 0) _ (New c.args.number) c.if-place-operands.false c.in-None.is refl
