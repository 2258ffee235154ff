use Rattle.std.proofs.Common.{◌≡◌, eqb, length}
use Rattle.std.specs.List.{list_any}
use Rattle.user_patterns_sema.proofs.terms.is_visited.Given as goal

abbrev pub invariant-places : goal.invariant-places
invariant-places l = list_any (eqb l.fn.place) l.rest ≡ list_any (eqb l.fn.place) l.fn.visited

abbrev pub decreases-places : goal.decreases-places
decreases-places l = length l.rest
