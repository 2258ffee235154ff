use Rattle.std.proofs.Common.{◌≡◌, length, eqb}
use Rattle.std.specs.List.{list_any}
use Rattle.user_patterns_data.proofs.well_formed.is_among.Given as goal

abbrev pub invariant-places : goal.invariant-places
invariant-places l = list_any (eqb l.fn.place) l.rest ≡ list_any (eqb l.fn.place) l.fn.places

abbrev pub decreases-places : goal.decreases-places
decreases-places l = length l.rest
