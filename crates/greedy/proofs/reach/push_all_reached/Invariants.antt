use Rattle.std.proofs.Common.{length}
use Rattle.greedy.specs.Adding.{Adding, OneOf}
use Rattle.greedy.specs.Parts.{IsReachedUpTo}
use Rattle.greedy.proofs.reach.push_all_reached.Given as goal

abbrev pub invariant-events : goal.invariant-events
invariant-events l = Adding (OneOf (IsReachedUpTo l.fn.world.store.module_of.tree l.fn.passed) l.fn.events) (OneOf (IsReachedUpTo l.fn.world.store.module_of.tree l.fn.passed) l.rest) l.fn.ops.items l.ops.items

abbrev pub decreases-events : goal.decreases-events
decreases-events l = length l.rest
