use Rattle.std.proofs.Common.{refl}
use Rattle.patterns_refinement.proofs.PassingSampled.{sample_is_doubled, sample_is_narrow}
use Rattle.patterns_refinement.proofs.passing.samples_are_passing.Goals as goal

pub returns-clause-patterns : goal.returns-clause-patterns
returns-clause-patterns c = ((record { wellformed = refl; buildable = refl; named = refl }, refl, refl, refl), (record { wellformed = refl; buildable = refl; named = refl }, refl, refl, refl))

pub returns-clause-ready : goal.returns-clause-ready
returns-clause-ready c = sample_is_doubled

pub returns-clause-narrow : goal.returns-clause-narrow
returns-clause-narrow c = sample_is_narrow
