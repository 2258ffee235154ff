use Rattle.std.proofs.Common.{◌≡◌, ◌++◌, length, map}
use Rattle.user_patterns_build.specs.Unified.{given_in}
use Rattle.user_patterns_build.proofs.unification.all_given.Given as goal

abbrev pub invariant-numbers : goal.invariant-numbers
invariant-numbers l = l.found.items ++ map (given_in l.fn.value_types) l.rest ≡ map (given_in l.fn.value_types) l.fn.numbers

abbrev pub decreases-numbers : goal.decreases-numbers
decreases-numbers l = length l.rest
