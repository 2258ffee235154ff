use Rattle.std.proofs.Common.{length}
use Rattle.greedy.specs.Adding.{Adding, OneOf}
use Rattle.greedy.specs.Parts.{IsNextTo}
use Rattle.greedy.proofs.neighbours.push_neighbours.Given as goal

abbrev pub invariant-events : goal.invariant-events
invariant-events l = Adding (OneOf (IsNextTo l.fn.world) l.fn.events) (OneOf (IsNextTo l.fn.world) l.rest) l.fn.ops.items l.ops.items

abbrev pub decreases-events : goal.decreases-events
decreases-events l = length l.rest
