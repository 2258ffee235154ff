use Rattle.std.proofs.Common.{◌≡◌, ◌++◌, length, take}
use Rattle.user_patterns_widths.specs.NearLiterals.{most_literals, neighbours}
use Rattle.user_patterns_widths.proofs.near_literals.with_neighbours.Given as goal

abbrev pub invariant-numbers : goal.invariant-numbers
invariant-numbers l = l.out.items ++ neighbours l.rest ≡ neighbours (take most_literals l.fn.numbers)

abbrev pub decreases-numbers : goal.decreases-numbers
decreases-numbers l = length l.rest
