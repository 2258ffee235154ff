use Rattle.std.proofs.Common.{◌≡◌, ◌++◌, length, map}
use Rattle.user_patterns_build.specs.Unified.{extra_in}
use Rattle.user_patterns_build.proofs.unification.all_extra.Given as goal

abbrev pub invariant-extra : goal.invariant-extra
invariant-extra l = l.found.items ++ map (extra_in l.fn.value_types) l.rest ≡ map (extra_in l.fn.value_types) l.fn.extra

abbrev pub decreases-extra : goal.decreases-extra
decreases-extra l = length l.rest
