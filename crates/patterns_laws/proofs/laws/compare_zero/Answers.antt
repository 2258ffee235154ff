use Rattle.patterns_laws.proofs.Chosen.{nothing_below, all_at_least}
use Rattle.patterns_laws.proofs.laws.compare_zero.Goals as goal

pub returns-clause-below : goal.returns-clause-below
returns-clause-below c = nothing_below

pub returns-clause-at_least : goal.returns-clause-at_least
returns-clause-at_least c = all_at_least
