use Rattle.patterns_refinement.proofs.Remainders.{expand_remainder_ready, expands_remainders}
use Rattle.patterns_refinement.proofs.rule_refinement.expand_remainder.Goals as goal

pub returns-clause-ready : goal.returns-clause-ready
returns-clause-ready c = expand_remainder_ready c.no_edit_is_refused.ensures

pub returns-clause-computing : goal.returns-clause-computing
returns-clause-computing c = expands_remainders c.no_edit_is_refused.ensures
