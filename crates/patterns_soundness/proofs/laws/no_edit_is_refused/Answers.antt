use Rattle.patterns_soundness.proofs.Accepted.{are_accepted}
use Rattle.patterns_soundness.proofs.laws.no_edit_is_refused.Goals as goal

pub returns : goal.returns
returns c = are_accepted
