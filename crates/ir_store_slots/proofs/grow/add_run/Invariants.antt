use Rattle.std.proofs.Common.{◌-◌, ◌≡◌, ◌≤◌, length}
use Rattle.ir_store_slots.specs.Index.{cells_of}
use Rattle.ir_store_slots.specs.Grows.{Runs}
use Rattle.ir_store_slots.proofs.grow.add_run.Given as goal

abbrev pub invariant-nodes : goal.invariant-nodes
invariant-nodes l =
    (l.place ≤ l.count)
    × ((l.base ≡ length l.initial.uses.homes)
    × Runs l.heads l.row l.place l.initial.uses.homes l.uses.homes (cells_of l.initial.cells.items) (cells_of l.cells.items))

abbrev pub decreases-nodes : goal.decreases-nodes
decreases-nodes l = l.count - l.place
