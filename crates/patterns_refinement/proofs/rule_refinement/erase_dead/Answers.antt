use Rattle.patterns_refinement.proofs.Erasing.{erase_dead_computing, erase_dead_ready}
use Rattle.patterns_refinement.proofs.rule_refinement.erase_dead.Goals as goal

pub returns-clause-ready : goal.returns-clause-ready
returns-clause-ready c = erase_dead_ready c.no_edit_is_refused.ensures

pub returns-clause-computing : goal.returns-clause-computing
returns-clause-computing c = erase_dead_computing c.no_edit_is_refused.ensures
