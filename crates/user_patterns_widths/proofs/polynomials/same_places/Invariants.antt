use Rattle.std.proofs.Common.{◌≡◌, length}
use Rattle.user_patterns_widths.specs.Polynomials as polynomials
use Rattle.user_patterns_widths.proofs.polynomials.same_places.Given as goal

abbrev pub invariant-places : goal.invariant-places
invariant-places l = polynomials.same_places l.first l.second ≡ polynomials.same_places l.fn.first l.fn.second

abbrev pub decreases-places : goal.decreases-places
decreases-places l = length l.first
