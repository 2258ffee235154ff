use Rattle.std.proofs.Common.{◌≡◌, ◌++◌, length}
use Rattle.user_patterns_check.specs.Families.{widths_at}
use Rattle.user_patterns_check.proofs.claims.widths_at.Given as goal

abbrev pub invariant-numbers : goal.invariant-numbers
invariant-numbers l = l.widths.items ++ widths_at l.rest ≡ widths_at l.fn.numbers

abbrev pub decreases-numbers : goal.decreases-numbers
decreases-numbers l = length l.rest
