use Rattle.std.proofs.Common.{◌≡◌, ◌++◌, length}
use Rattle.user_patterns_widths.specs.Views.{view}
use Rattle.user_patterns_widths.proofs.polynomials.push_copies.Given as goal

abbrev pub invariant-terms : goal.invariant-terms
invariant-terms l = view l.out.items ++ view l.rest ≡ view l.fn.out.items ++ view l.fn.terms

abbrev pub decreases-terms : goal.decreases-terms
decreases-terms l = length l.rest
