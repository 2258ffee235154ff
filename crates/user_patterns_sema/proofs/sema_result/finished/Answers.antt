use Rattle.user_patterns_sema.proofs.Ending.{checked_same}
use Rattle.user_patterns_sema.proofs.sema_result.finished.Goals as goal

pub returns-clause-gives : goal.returns-clause-gives
returns-clause-gives c = checked_same _ _ c.checked.result c.pattern_of.ensures c.checked.ensures.gives
