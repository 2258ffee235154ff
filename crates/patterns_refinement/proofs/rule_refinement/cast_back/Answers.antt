use Rattle.patterns_refinement.proofs.CastingBack.{cast_back_ready, casts_back}
use Rattle.patterns_refinement.proofs.rule_refinement.cast_back.Goals as goal

pub returns-clause-ready : goal.returns-clause-ready
returns-clause-ready c = cast_back_ready c.no_edit_is_refused.ensures

pub returns-clause-computing : goal.returns-clause-computing
returns-clause-computing c = casts_back c.no_edit_is_refused.ensures
