use Rattle.user_patterns_apply.proofs.Accepted.{user_patterns_are_accepted}
use Rattle.user_patterns_apply.proofs.laws.pattern_edits_are_accepted.Goals as goal

pub returns : goal.returns
returns c = user_patterns_are_accepted
