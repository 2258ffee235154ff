use Rattle.patterns_refinement.proofs.TruthRules.{compare_itself_computing, compare_itself_ready}
use Rattle.patterns_refinement.proofs.rule_refinement.compare_itself.Goals as goal

pub returns-clause-ready : goal.returns-clause-ready
returns-clause-ready c = compare_itself_ready c.no_edit_is_refused.ensures

pub returns-clause-computing : goal.returns-clause-computing
returns-clause-computing c = compare_itself_computing c.no_edit_is_refused.ensures
