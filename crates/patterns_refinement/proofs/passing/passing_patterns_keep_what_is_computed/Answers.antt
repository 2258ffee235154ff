use Rattle.patterns_refinement.proofs.PassingKept.{applied_is_found, checked_passing_keep, passing_keep}
use Rattle.patterns_refinement.proofs.passing.passing_patterns_keep_what_is_computed.Goals as goal

pub returns-clause-passing : goal.returns-clause-passing
returns-clause-passing c = passing_keep c.pattern_edits_are_accepted.ensures

pub returns-clause-checked : goal.returns-clause-checked
returns-clause-checked c = checked_passing_keep c.pattern_edits_are_accepted.ensures

pub returns-clause-found : goal.returns-clause-found
returns-clause-found c = applied_is_found
