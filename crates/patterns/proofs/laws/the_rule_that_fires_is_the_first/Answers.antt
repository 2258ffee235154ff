use Rattle.patterns.proofs.Firsts.{first_is}
use Rattle.patterns.proofs.laws.the_rule_that_fires_is_the_first.Goals as goal

pub returns : goal.returns
returns c = first_is
