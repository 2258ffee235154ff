use Rattle.std.proofs.Common.{◌∙◌, ap}
use Rattle.user_patterns_build.specs.Unified.{if_ready, ready}
use Rattle.user_patterns_build.proofs.unification.prepare.Goals as goal

pub returns : goal.returns
unfolding ready
returns c = c.if_ready.ensures ∙ ap if_ready c.in_ok-made.ensures
