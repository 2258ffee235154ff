use Rattle.std.proofs.Common.{◌≡◌, ◌-◌, drop, length}
use Rattle.greedy.specs.Adding.{Adding, OneOf}
use Rattle.greedy.specs.Parts.{IsSeer}
use Rattle.greedy.proofs.users.push_seers_from.Given as goal

abbrev pub invariant-listed : goal.invariant-listed
invariant-listed l =
    (l.count ≡ length l.fn.ops.items)
    × Adding (OneOf (IsSeer l.fn.world.store.module_of.tree l.fn.passed) (drop l.fn.from l.fn.ops.items)) (OneOf (IsSeer l.fn.world.store.module_of.tree l.fn.passed) (drop l.place l.fn.ops.items)) l.fn.ops.items l.ops.items

abbrev pub decreases-listed : goal.decreases-listed
decreases-listed l = l.count - l.place
