use Rattle.patterns_refinement.proofs.InRange.{outcomes_keep}
use Rattle.patterns_refinement.proofs.OutcomesKept.{outcomes_keep_there}
use Rattle.patterns_refinement.proofs.proved.patterns_for_all_outcomes_keep_what_is_computed.Goals as goal

pub returns-clause-there : goal.returns-clause-there
returns-clause-there c = outcomes_keep_there c.pattern_edits_are_accepted.ensures

pub returns-clause-patterns : goal.returns-clause-patterns
returns-clause-patterns c = outcomes_keep c.pattern_edits_are_accepted.ensures
