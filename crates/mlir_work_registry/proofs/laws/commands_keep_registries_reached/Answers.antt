use Rattle.mlir_work_registry.proofs.Reaching.{commands_change, commands_reach, new_is_reached}
use Rattle.mlir_work_registry.proofs.laws.commands_keep_registries_reached.Goals as goal

pub returns-clause-changes : goal.returns-clause-changes
returns-clause-changes c = commands_change

pub returns-clause-empty : goal.returns-clause-empty
returns-clause-empty c = new_is_reached

pub returns-clause-reached : goal.returns-clause-reached
returns-clause-reached c = commands_reach
