use Rattle.std.proofs.Common.{◌≡◌, ◌*◌, ◌+◌, map, length}
use Rattle.ir_store_slots.specs.Lists.{list_at}
use Rattle.ir_store_slots.specs.Rows.{shape_of}
use Rattle.ir_store_slots.specs.Plans.{AllHeads}
use Rattle.ir_store_slots.specs.Walks.{slot_fits, shapes_pass, from_slot}
use Rattle.ir_store_slots.proofs.Walked.{Walks}
use Rattle.ir_store_reads.proofs.depth.+fits_in.Given as goal

abbrev pub invariant-areas_fit-areas : goal.invariant-areas_fit-areas
invariant-areas_fit-areas l = AllHeads l.sibs.homes (map shape_of l.rest)
    × (shapes_pass l.sibs.lists (slot_fits l.slots l.sibs.lists l.headroom) (map shape_of l.fn.areas) ≡ shapes_pass l.sibs.lists (slot_fits l.slots l.sibs.lists l.headroom) (map shape_of l.rest))

abbrev pub decreases-areas_fit-areas : goal.decreases-areas_fit-areas
decreases-areas_fit-areas l = length l.rest

abbrev pub invariant-list_fits-ops : goal.invariant-list_fits-ops
invariant-list_fits-ops l = Walks l.sibs.lists (slot_fits l.slots l.sibs.lists l.headroom) l.fn.head l.at

abbrev pub decreases-list_fits-ops : goal.decreases-list_fits-ops
decreases-list_fits-ops l = length (from_slot l.at (list_at l.sibs.lists l.fn.head))

abbrev pub decreases-op_fits : goal.decreases-op_fits
decreases-op_fits l = 4 * l.headroom

abbrev pub decreases-areas_fit : goal.decreases-areas_fit
decreases-areas_fit l = 4 * l.headroom + 3

abbrev pub decreases-area_fits : goal.decreases-area_fits
decreases-area_fits l = 4 * l.headroom + 2

abbrev pub decreases-list_fits : goal.decreases-list_fits
decreases-list_fits l = 4 * l.headroom + 1
