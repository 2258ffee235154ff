use Rattle.patterns_refinement.proofs.Expanding.{expand_difference_computing, expand_difference_ready}
use Rattle.patterns_refinement.proofs.rule_refinement.expand_difference.Goals as goal

pub returns-clause-ready : goal.returns-clause-ready
returns-clause-ready c = expand_difference_ready c.no_edit_is_refused.ensures

pub returns-clause-computing : goal.returns-clause-computing
returns-clause-computing c = expand_difference_computing c.no_edit_is_refused.ensures
