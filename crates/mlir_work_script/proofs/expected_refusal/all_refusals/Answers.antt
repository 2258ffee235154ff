use Rattle.std.proofs.Common.{refl}
use Rattle.mlir_work_script.specs.Expecting.{all_refusals}
use Rattle.mlir_work_script.proofs.expected_refusal.all_refusals.Goals as goal

pub returns : goal.returns
unfolding all_refusals
returns c = refl
