use Rattle.patterns_refinement.proofs.Joining.{add_negative_computing, add_negative_ready}
use Rattle.patterns_refinement.proofs.rule_refinement.add_negative.Goals as goal

pub returns-clause-ready : goal.returns-clause-ready
returns-clause-ready c = add_negative_ready c.no_edit_is_refused.ensures

pub returns-clause-computing : goal.returns-clause-computing
returns-clause-computing c = add_negative_computing c.no_edit_is_refused.ensures
