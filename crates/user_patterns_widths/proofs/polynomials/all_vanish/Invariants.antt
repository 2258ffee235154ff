use Rattle.std.proofs.Common.{◌≡◌, length}
use Rattle.std.specs.Prelude.{◌==◌}
use Rattle.std.specs.List.{list_all}
use Rattle.user_patterns_widths.specs.Polynomials as polynomials
use Rattle.user_patterns_widths.specs.Views.{view}
use Rattle.user_patterns_widths.proofs.polynomials.all_vanish.Given as goal

abbrev pub invariant-terms : goal.invariant-terms
invariant-terms l =
    list_all (λ (t : polynomials.Term). polynomials.coefficient_of t.1 (view l.fn.others) == 0) (view l.rest)
    ≡ list_all (λ (t : polynomials.Term). polynomials.coefficient_of t.1 (view l.fn.others) == 0) (view l.fn.terms)

abbrev pub decreases-terms : goal.decreases-terms
decreases-terms l = length l.rest
