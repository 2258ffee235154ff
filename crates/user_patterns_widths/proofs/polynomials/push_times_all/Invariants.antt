use Rattle.std.proofs.Common.{◌≡◌, ◌++◌, length}
use Rattle.user_patterns_widths.specs.Polynomials.{times_all}
use Rattle.user_patterns_widths.specs.Views.{term_view, view}
use Rattle.user_patterns_widths.proofs.polynomials.push_times_all.Given as goal

abbrev pub invariant-terms : goal.invariant-terms
invariant-terms l =
    view l.out.items ++ times_all (term_view l.fn.term) (view l.rest) ≡ view l.fn.out.items ++ times_all (term_view l.fn.term) (view l.fn.terms)

abbrev pub decreases-terms : goal.decreases-terms
decreases-terms l = length l.rest
