use Rattle.patterns_refinement.proofs.Casts.{cut_cast_computing, cut_cast_ready}
use Rattle.patterns_refinement.proofs.rule_refinement.cut_cast.Goals as goal

pub returns-clause-ready : goal.returns-clause-ready
returns-clause-ready c = cut_cast_ready c.no_edit_is_refused.ensures

pub returns-clause-computing : goal.returns-clause-computing
returns-clause-computing c = cut_cast_computing c.no_edit_is_refused.ensures
