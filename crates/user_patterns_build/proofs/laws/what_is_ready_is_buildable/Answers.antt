use Rattle.user_patterns_build.proofs.Numbered.{is_ready}
use Rattle.user_patterns_build.proofs.laws.what_is_ready_is_buildable.Goals as goal

pub returns : goal.returns
returns c = is_ready
