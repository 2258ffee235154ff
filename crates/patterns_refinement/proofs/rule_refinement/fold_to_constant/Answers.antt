use Rattle.patterns_refinement.proofs.Folding.{fold_to_constant_computing, fold_to_constant_ready}
use Rattle.patterns_refinement.proofs.rule_refinement.fold_to_constant.Goals as goal

pub returns-clause-ready : goal.returns-clause-ready
returns-clause-ready c = fold_to_constant_ready c.no_edit_is_refused.ensures

pub returns-clause-computing : goal.returns-clause-computing
returns-clause-computing c = fold_to_constant_computing c.no_edit_is_refused.ensures
