use Rattle.std.proofs.Common.{length, ◌≡◌}
use Rattle.std.specs.List.{list_all}
use Rattle.user_patterns_build.specs.CanBuild.{spares}
use Rattle.user_patterns_build.proofs.can_build.all_spare.Given as goal

abbrev pub invariant-new : goal.invariant-new
invariant-new l = list_all (spares l.fn.place) l.rest ≡ list_all (spares l.fn.place) l.fn.new

abbrev pub decreases-new : goal.decreases-new
decreases-new l = length l.rest
