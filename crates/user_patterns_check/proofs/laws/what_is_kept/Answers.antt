use Rattle.user_patterns_check.proofs.Keeping.{stays_defined, stays_the_value}
use Rattle.user_patterns_check.proofs.laws.what_is_kept.Goals as goal

pub returns-clause-defined : goal.returns-clause-defined
returns-clause-defined c = stays_defined

pub returns-clause-value : goal.returns-clause-value
returns-clause-value c = stays_the_value
