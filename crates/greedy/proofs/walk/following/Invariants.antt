use Rattle.std.proofs.Common.{◌≡◌, true}
use Rattle.ir_event.specs.trees.Ids.{has_id}
use Rattle.ir_event.specs.tree_laws.Stands.{op_with_path}
use Rattle.greedy.specs.Following.{following, first_id, after_of, height_of}
use Rattle.greedy.proofs.walk.following.Given as goal

abbrev pub invariant-around : goal.invariant-around
invariant-around l = (has_id l.at l.fn.store.module_of.tree ≡ true) × (following l.fn.op l.fn.store.module_of.tree ≡ first_id (after_of (op_with_path l.at l.fn.store.module_of.tree)))

abbrev pub decreases-around : goal.decreases-around
decreases-around l = height_of (op_with_path l.at l.fn.store.module_of.tree)
