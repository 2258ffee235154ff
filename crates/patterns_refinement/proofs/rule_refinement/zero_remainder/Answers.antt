use Rattle.patterns_refinement.proofs.NumberRules.{zero_remainder_computing, zero_remainder_ready}
use Rattle.patterns_refinement.proofs.rule_refinement.zero_remainder.Goals as goal

pub returns-clause-ready : goal.returns-clause-ready
returns-clause-ready c = zero_remainder_ready c.no_edit_is_refused.ensures

pub returns-clause-computing : goal.returns-clause-computing
returns-clause-computing c = zero_remainder_computing c.no_edit_is_refused.ensures
