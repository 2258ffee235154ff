use Rattle.std.proofs.Common.{◌≡◌, ◌++◌, length}
use Rattle.user_patterns_widths.specs.NearLiterals.{extra_literals}
use Rattle.user_patterns_widths.proofs.near_literals.push_extras.Given as goal

abbrev pub invariant-extras : goal.invariant-extras
invariant-extras l = l.out.items ++ extra_literals l.rest ≡ l.fn.out.items ++ extra_literals l.fn.extras

abbrev pub decreases-extras : goal.decreases-extras
decreases-extras l = length l.rest
