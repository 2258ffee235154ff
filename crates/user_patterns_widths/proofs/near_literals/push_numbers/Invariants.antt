use Rattle.std.proofs.Common.{◌≡◌, ◌++◌, length}
use Rattle.user_patterns_widths.specs.NearLiterals.{number_literals}
use Rattle.user_patterns_widths.proofs.near_literals.push_numbers.Given as goal

abbrev pub invariant-numbers : goal.invariant-numbers
invariant-numbers l = l.out.items ++ number_literals l.rest ≡ l.fn.out.items ++ number_literals l.fn.numbers

abbrev pub decreases-numbers : goal.decreases-numbers
decreases-numbers l = length l.rest
