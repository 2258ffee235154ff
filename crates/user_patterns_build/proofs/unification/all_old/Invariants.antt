use Rattle.std.proofs.Common.{◌≡◌, ◌++◌, length, map}
use Rattle.user_patterns_build.specs.Unified.{pattern_op_in}
use Rattle.user_patterns_build.proofs.unification.all_old.Given as goal

abbrev pub invariant-old : goal.invariant-old
invariant-old l = l.found.items ++ map (pattern_op_in l.fn.value_types) l.rest ≡ map (pattern_op_in l.fn.value_types) l.fn.old

abbrev pub decreases-old : goal.decreases-old
decreases-old l = length l.rest
