use Rattle.patterns_refinement.proofs.OldRules.{keep_itself_is}
use Rattle.patterns_refinement.proofs.rule_refinement.keep_itself.Goals as goal

pub returns-clause-ready : goal.returns-clause-ready
returns-clause-ready c = (keep_itself_is c.no_edit_is_refused.ensures).0

pub returns-clause-computing : goal.returns-clause-computing
returns-clause-computing c = (keep_itself_is c.no_edit_is_refused.ensures).1
