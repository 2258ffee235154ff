use Rattle.patterns_refinement.proofs.Joining.{regroup_constants_computing, regroup_constants_ready}
use Rattle.patterns_refinement.proofs.rule_refinement.regroup_constants.Goals as goal

pub returns-clause-ready : goal.returns-clause-ready
returns-clause-ready c = regroup_constants_ready c.no_edit_is_refused.ensures

pub returns-clause-computing : goal.returns-clause-computing
returns-clause-computing c = regroup_constants_computing c.no_edit_is_refused.ensures
