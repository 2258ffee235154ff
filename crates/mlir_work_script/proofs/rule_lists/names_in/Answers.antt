use Rattle.std.proofs.Common.{refl}
use Rattle.mlir_work_script.specs.RuleLists.{numbers_from}
use Rattle.mlir_work_script.proofs.rule_lists.names_in.Goals as goal

pub returns : goal.returns
unfolding numbers_from
returns c = refl
