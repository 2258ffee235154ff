use Rattle.std.proofs.Common.{◌*◌, ◌+◌, length}
use Rattle.ir_store_slots.specs.Lists.{list_at}
use Rattle.ir_store_slots.specs.Walks.{from_slot}
use Rattle.ir_store_reads.proofs.Adding.{LeftRegions, LeftSlots}
use Rattle.ir_store_reads.proofs.walk.+push.Given as goal

abbrev pub invariant-push_areas-areas : goal.invariant-push_areas-areas
invariant-push_areas-areas l = LeftRegions l.slots l.sibs.lists l.sibs.homes l.fn.areas l.rest l.initial.out.items l.out.items

abbrev pub decreases-push_areas-areas : goal.decreases-push_areas-areas
decreases-push_areas-areas l = length l.rest

abbrev pub invariant-push_list-ops : goal.invariant-push_list-ops
invariant-push_list-ops l = LeftSlots l.slots l.sibs.lists l.fn.head l.at l.initial.out.items l.out.items

abbrev pub decreases-push_list-ops : goal.decreases-push_list-ops
decreases-push_list-ops l = length (from_slot l.at (list_at l.sibs.lists l.fn.head))

abbrev pub decreases-push_op : goal.decreases-push_op
decreases-push_op l = 5 * l.levels

abbrev pub decreases-push_areas : goal.decreases-push_areas
decreases-push_areas l = 5 * l.levels + 4

abbrev pub decreases-push_area : goal.decreases-push_area
decreases-push_area l = 5 * l.levels + 3

abbrev pub decreases-push_list : goal.decreases-push_list
decreases-push_list l = 5 * l.levels + 2

abbrev pub decreases-push_item : goal.decreases-push_item
decreases-push_item l = 5 * l.levels + 1
