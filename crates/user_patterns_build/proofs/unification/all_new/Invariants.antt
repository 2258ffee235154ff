use Rattle.std.proofs.Common.{◌≡◌, ◌++◌, length, map}
use Rattle.user_patterns_build.specs.Unified.{new_in}
use Rattle.user_patterns_build.proofs.unification.all_new.Given as goal

abbrev pub invariant-new : goal.invariant-new
invariant-new l = l.found.items ++ map (new_in l.fn.value_types) l.rest ≡ map (new_in l.fn.value_types) l.fn.new

abbrev pub decreases-new : goal.decreases-new
decreases-new l = length l.rest
