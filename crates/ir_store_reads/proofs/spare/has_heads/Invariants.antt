use Rattle.std.proofs.Common.{◌≡◌, ◌≤◌, ◌+◌, ◌-◌}
use Rattle.ir_store_slots.specs.Index.{cells_of}
use Rattle.ir_store_reads.specs.Again.{HeadsOf}
use Rattle.ir_store_reads.proofs.spare.has_heads.Given as goal

abbrev pub invariant-heads : goal.invariant-heads
invariant-heads l = (l.place ≤ l.count) × ((l.at ≡ l.base + l.place) × HeadsOf l.uses.homes (cells_of l.cells.items) l.row l.base l.place)

abbrev pub decreases-heads : goal.decreases-heads
decreases-heads l = l.count - l.place
