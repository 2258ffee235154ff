use Rattle.std.proofs.Common.{◌≡◌, ◌++◌, length}
use Rattle.user_patterns_widths.specs.Polynomials as polynomials
use Rattle.user_patterns_widths.specs.Views.{view}
use Rattle.user_patterns_widths.proofs.polynomials.push_negated.Given as goal

abbrev pub invariant-terms : goal.invariant-terms
invariant-terms l = view l.out.items ++ polynomials.negated (view l.rest) ≡ view l.fn.out.items ++ polynomials.negated (view l.fn.terms)

abbrev pub decreases-terms : goal.decreases-terms
decreases-terms l = length l.rest
