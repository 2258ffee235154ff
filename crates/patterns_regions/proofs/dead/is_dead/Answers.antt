use Rattle.std.proofs.Common.{◌∙◌, sym}
use Rattle.ir_event.specs.Modules.{module_in}
use Rattle.patterns_plans.proofs.Headed.{none_dead}
use Rattle.patterns_regions.proofs.dead.is_dead.Goals as goal

pub returns-clause-dead : goal.returns-clause-dead
returns-clause-dead c e = sym c.dead_op.ensures ∙ e

pub returns-clause-left_out : goal.returns-clause-left_out
returns-clause-left_out c e o f n insertion = none_dead c.args.op (module_in c.args.world.now).tree o c.dead_op.result c.dead_op.ensures e f n insertion
