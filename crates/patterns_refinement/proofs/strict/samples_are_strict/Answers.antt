use Rattle.std.proofs.Common.{refl}
use Rattle.patterns_refinement.proofs.StrictSampled.{sample_is_ready}
use Rattle.patterns_refinement.proofs.strict.samples_are_strict.Goals as goal

pub returns-clause-patterns : goal.returns-clause-patterns
returns-clause-patterns c = ((record { wellformed = refl; buildable = refl; named = refl }, refl, refl), (record { wellformed = refl; buildable = refl; named = refl }, refl, refl))

pub returns-clause-ready : goal.returns-clause-ready
returns-clause-ready c = sample_is_ready
