use Rattle.patterns_refinement.proofs.NumberRules.{cancel_itself_computing, cancel_itself_ready}
use Rattle.patterns_refinement.proofs.rule_refinement.cancel_itself.Goals as goal

pub returns-clause-ready : goal.returns-clause-ready
returns-clause-ready c = cancel_itself_ready c.no_edit_is_refused.ensures

pub returns-clause-computing : goal.returns-clause-computing
returns-clause-computing c = cancel_itself_computing c.no_edit_is_refused.ensures
