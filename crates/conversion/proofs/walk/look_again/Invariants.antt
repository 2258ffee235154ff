use Rattle.std.proofs.Common.{nat_eq, length}
use Rattle.std.specs.HashMap.{get}
use Rattle.conversion.proofs.Waiting.{Adding}
use Rattle.conversion.proofs.walk.look_again.Given as goal

abbrev pub invariant-ops : goal.invariant-ops
invariant-ops l = Adding l.ops l.rest (get nat_eq l.places) l.initial.walk.passed l.initial.walk.again.keys l.walk.passed l.walk.again.keys

abbrev pub decreases-ops : goal.decreases-ops
decreases-ops l = length l.rest
