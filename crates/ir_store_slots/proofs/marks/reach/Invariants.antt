use Rattle.std.proofs.Common.{◌+◌, ◌-◌, length}
use Rattle.ir_store_slots.specs.Marks.{Reaches}
use Rattle.ir_store_slots.proofs.marks.reach.Given as goal

abbrev pub invariant-nodes : goal.invariant-nodes
invariant-nodes l = Reaches l.initial.marks.homes l.marks.homes

abbrev pub decreases-nodes : goal.decreases-nodes
decreases-nodes l = (l.count + 2) - length l.marks.homes
