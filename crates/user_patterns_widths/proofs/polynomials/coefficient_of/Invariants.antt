use Rattle.std.proofs.Common.{◌≡◌, ◌+◌, length}
use Rattle.user_patterns_widths.specs.Polynomials as polynomials
use Rattle.user_patterns_widths.specs.Views.{view}
use Rattle.user_patterns_widths.proofs.polynomials.coefficient_of.Given as goal

abbrev pub invariant-terms : goal.invariant-terms
invariant-terms l =
    polynomials.coefficient (l.sum + polynomials.coefficient_of l.fn.places (view l.rest)) ≡ polynomials.coefficient_of l.fn.places (view l.fn.terms)

abbrev pub decreases-terms : goal.decreases-terms
decreases-terms l = length l.rest
