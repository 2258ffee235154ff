use Rattle.std.proofs.Common.{◌≡◌, ◌≤◌, ◌+◌, ◌-◌}
use Rattle.ir_store_slots.specs.Index.{cells_of}
use Rattle.ir_store_reads.specs.Again.{NodesOf}
use Rattle.ir_store_reads.proofs.spare.has_nodes.Given as goal

abbrev pub invariant-nodes : goal.invariant-nodes
invariant-nodes l = (l.place ≤ l.count) × ((l.at ≡ l.base + l.place) × NodesOf l.uses.homes (cells_of l.cells.items) l.row l.base l.place)

abbrev pub decreases-nodes : goal.decreases-nodes
decreases-nodes l = l.count - l.place
