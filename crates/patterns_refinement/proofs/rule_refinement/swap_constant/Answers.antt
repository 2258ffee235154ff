use Rattle.patterns_refinement.proofs.Swapping.{swap_constant_computing, swap_constant_ready}
use Rattle.patterns_refinement.proofs.rule_refinement.swap_constant.Goals as goal

pub returns-clause-ready : goal.returns-clause-ready
returns-clause-ready c = swap_constant_ready c.no_edit_is_refused.ensures

pub returns-clause-computing : goal.returns-clause-computing
returns-clause-computing c = swap_constant_computing c.no_edit_is_refused.ensures
