use Rattle.std.proofs.Common.{◌≡◌, ◌++◌, length}
use Rattle.user_patterns_widths.specs.Polynomials as polynomials
use Rattle.user_patterns_widths.specs.Views.{view}
use Rattle.user_patterns_widths.proofs.polynomials.product.Given as goal

abbrev pub invariant-terms : goal.invariant-terms
invariant-terms l = view l.terms.items ++ polynomials.product (view l.rest) (view l.fn.second) ≡ polynomials.product (view l.fn.first) (view l.fn.second)

abbrev pub decreases-terms : goal.decreases-terms
decreases-terms l = length l.rest
