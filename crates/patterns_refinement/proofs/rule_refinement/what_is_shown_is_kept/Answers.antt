use Rattle.patterns_refinement.proofs.Showing.{shown_were_there}
use Rattle.patterns_refinement.proofs.ShowingSampled.{are_refused}
use Rattle.patterns_refinement.proofs.rule_refinement.what_is_shown_is_kept.Goals as goal

pub returns-clause-refused : goal.returns-clause-refused
returns-clause-refused c = are_refused

pub returns-clause-there : goal.returns-clause-there
returns-clause-there c = shown_were_there
