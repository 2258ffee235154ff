use Rattle.patterns_refinement.proofs.OldRules.{drop_all_ones_is}
use Rattle.patterns_refinement.proofs.rule_refinement.drop_all_ones.Goals as goal

pub returns-clause-ready : goal.returns-clause-ready
returns-clause-ready c = (drop_all_ones_is c.no_edit_is_refused.ensures).0

pub returns-clause-computing : goal.returns-clause-computing
returns-clause-computing c = (drop_all_ones_is c.no_edit_is_refused.ensures).1
