use Rattle.std.proofs.Common.{◌≡◌, length}
use Rattle.std.specs.List.{list_all}
use Rattle.user_patterns_widths.specs.Polynomials as polynomials
use Rattle.user_patterns_widths.specs.Views.{view}
use Rattle.user_patterns_widths.proofs.polynomials.all_low.Given as goal

abbrev pub invariant-terms : goal.invariant-terms
invariant-terms l = list_all polynomials.is_low (view l.rest) ≡ list_all polynomials.is_low (view l.fn.terms)

abbrev pub decreases-terms : goal.decreases-terms
decreases-terms l = length l.rest
