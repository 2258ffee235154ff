use Rattle.patterns_refinement.proofs.Choosing.{choose_opposite_computing, choose_opposite_ready}
use Rattle.patterns_refinement.proofs.rule_refinement.choose_opposite.Goals as goal

pub returns-clause-ready : goal.returns-clause-ready
returns-clause-ready c = choose_opposite_ready c.no_edit_is_refused.ensures

pub returns-clause-computing : goal.returns-clause-computing
returns-clause-computing c = choose_opposite_computing c.no_edit_is_refused.ensures
