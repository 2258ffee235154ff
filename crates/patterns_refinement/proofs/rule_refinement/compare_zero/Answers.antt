use Rattle.patterns_refinement.proofs.TruthRules.{compare_zero_computing, compare_zero_ready}
use Rattle.patterns_refinement.proofs.rule_refinement.compare_zero.Goals as goal

pub returns-clause-ready : goal.returns-clause-ready
returns-clause-ready c = compare_zero_ready c.no_edit_is_refused.ensures

pub returns-clause-computing : goal.returns-clause-computing
returns-clause-computing c = compare_zero_computing c.no_edit_is_refused.ensures
