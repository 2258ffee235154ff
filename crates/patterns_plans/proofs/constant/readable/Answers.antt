use Rattle.ir_event.specs.Modules.{module_in}
use Rattle.patterns_plans.proofs.Folded.{not_constant}
use Rattle.patterns_plans.proofs.constant.readable.Goals as goal

pub returns : goal.returns
returns c = not_constant (module_in c.args.world.now).tree c.args.value.now c.is_constant.result c.is_constant.ensures c.if-is_constant.false
