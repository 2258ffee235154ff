use Rattle.patterns_refinement.proofs.OldRules.{choose_same_is}
use Rattle.patterns_refinement.proofs.rule_refinement.choose_same.Goals as goal

pub returns-clause-ready : goal.returns-clause-ready
returns-clause-ready c = (choose_same_is c.no_edit_is_refused.ensures).0

pub returns-clause-computing : goal.returns-clause-computing
returns-clause-computing c = (choose_same_is c.no_edit_is_refused.ensures).1
