use Rattle.patterns_refinement.proofs.ByForm.{kinded_by_form}
use Rattle.patterns_refinement.proofs.passing.patterns_are_kinded_by_form.Goals as goal

pub returns : goal.returns
returns c = kinded_by_form
