use Rattle.patterns_refinement.proofs.Extremes.{expand_min_max_computing, expand_min_max_ready}
use Rattle.patterns_refinement.proofs.rule_refinement.expand_min_max.Goals as goal

pub returns-clause-ready : goal.returns-clause-ready
returns-clause-ready c = expand_min_max_ready c.no_edit_is_refused.ensures

pub returns-clause-computing : goal.returns-clause-computing
returns-clause-computing c = expand_min_max_computing c.no_edit_is_refused.ensures
