use Rattle.patterns_refinement.proofs.Ruled.{others_are_kinded}
use Rattle.patterns_refinement.proofs.refinement.operations_of_other_types_are_kinded.Goals as goal

pub returns : goal.returns
returns c = others_are_kinded
