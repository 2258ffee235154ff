use Rattle.std.proofs.Common.{◌≡◌, length}
use Rattle.user_patterns_build.specs.CanBuild.{last_type, or_last}
use Rattle.user_patterns_build.proofs.can_build.last_type.Given as goal

abbrev pub invariant-new : goal.invariant-new
invariant-new l = or_last l.last l.rest ≡ last_type l.fn.new

abbrev pub decreases-new : goal.decreases-new
decreases-new l = length l.rest
