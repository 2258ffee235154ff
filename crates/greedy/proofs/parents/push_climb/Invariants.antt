use Rattle.ir_event.specs.tree_laws.Stands.{op_with_path}
use Rattle.greedy.specs.Adding.{Adding}
use Rattle.greedy.specs.Parts.{IsClimbed}
use Rattle.greedy.proofs.Climbing.{height_of}
use Rattle.greedy.proofs.parents.push_climb.Given as goal

abbrev pub invariant-around : goal.invariant-around
invariant-around l = Adding (IsClimbed l.fn.world l.fn.op) (IsClimbed l.fn.world l.at) l.fn.ops.items l.ops.items

abbrev pub decreases-around : goal.decreases-around
decreases-around l = height_of (op_with_path l.at l.fn.world.store.module_of.tree)
