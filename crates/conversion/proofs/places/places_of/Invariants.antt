use Rattle.std.proofs.Common.{nat_eq, length}
use Rattle.std.specs.HashMap.{get}
use Rattle.conversion.proofs.Waiting.{Noting}
use Rattle.conversion.proofs.places.places_of.Given as goal

abbrev pub invariant-ops : goal.invariant-ops
invariant-ops l = Noting l.ops l.rest l.place (get nat_eq l.places)

abbrev pub decreases-ops : goal.decreases-ops
decreases-ops l = length l.rest
