use Rattle.conversion_base.proofs.Enough.{none_is_left}
use Rattle.conversion_base.proofs.Falls.{falls_collapse}
use Rattle.conversion_base.proofs.laws.none_is_left.Goals as goal

pub returns-clause-falls : goal.returns-clause-falls
returns-clause-falls c = falls_collapse

pub returns-clause-none : goal.returns-clause-none
returns-clause-none c = none_is_left falls_collapse
