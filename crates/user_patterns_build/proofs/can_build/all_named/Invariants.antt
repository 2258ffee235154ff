use Rattle.std.proofs.Common.{length, ◌≡◌}
use Rattle.std.specs.List.{list_all}
use Rattle.user_patterns_build.specs.CanBuild.{is_named}
use Rattle.user_patterns_build.proofs.can_build.all_named.Given as goal

abbrev pub invariant-new : goal.invariant-new
invariant-new l = list_all is_named l.rest ≡ list_all is_named l.fn.new

abbrev pub decreases-new : goal.decreases-new
decreases-new l = length l.rest
