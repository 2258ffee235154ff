use Rattle.mlir_work_cli.proofs.Joined.{module_alone, module_kept}
use Rattle.mlir_work_cli.proofs.input_laws.modules_stay.Goals as goal

pub returns-clause-divided : goal.returns-clause-divided
returns-clause-divided c = module_kept

pub returns-clause-alone : goal.returns-clause-alone
returns-clause-alone c = module_alone
