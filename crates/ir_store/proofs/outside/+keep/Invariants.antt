use Rattle.std.proofs.Common.{◌≡◌, ◌*◌, ◌+◌, map, length, not}
use Rattle.ir_store_reads.specs.Lists.{list_at}
use Rattle.ir_store_reads.specs.Rows.{shape_of}
use Rattle.ir_store_reads.specs.Index.{ArgHeads, cells_of}
use Rattle.ir_store_reads.specs.Plans.{AllHeads}
use Rattle.ir_store_reads.specs.Walks.{from_slot}
use Rattle.ir_store_reads.proofs.Walked.{Walks}
use Rattle.ir_store.specs.Outside.{leaves_use, lists_pass, shapes_keep, slot_keeps}
use Rattle.ir_store.proofs.outside.+keep.Given as goal

abbrev pub invariant-areas_keep-areas : goal.invariant-areas_keep-areas
invariant-areas_keep-areas l = (AllHeads l.sibs.homes (map shape_of l.rest) × ArgHeads l.slots l.uses.homes (map shape_of l.rest))
    × (shapes_keep l.slots l.sibs.lists (lists_pass l.uses.lists (λ u. not (leaves_use l.slots (cells_of l.cells.items) l.op l.store.module_of.tree u)))
    (slot_keeps l.slots l.sibs.lists (lists_pass l.uses.lists (λ u. not (leaves_use l.slots (cells_of l.cells.items) l.op l.store.module_of.tree u))) l.levels) (map shape_of l.fn.areas)
    ≡ shapes_keep l.slots l.sibs.lists (lists_pass l.uses.lists (λ u. not (leaves_use l.slots (cells_of l.cells.items) l.op l.store.module_of.tree u)))
    (slot_keeps l.slots l.sibs.lists (lists_pass l.uses.lists (λ u. not (leaves_use l.slots (cells_of l.cells.items) l.op l.store.module_of.tree u))) l.levels) (map shape_of l.rest))

abbrev pub decreases-areas_keep-areas : goal.decreases-areas_keep-areas
decreases-areas_keep-areas l = length l.rest

abbrev pub invariant-list_keeps-ops : goal.invariant-list_keeps-ops
invariant-list_keeps-ops l =
    Walks l.sibs.lists (slot_keeps l.slots l.sibs.lists (lists_pass l.uses.lists (λ u. not (leaves_use l.slots (cells_of l.cells.items) l.op l.store.module_of.tree u))) l.levels) l.fn.head l.at

abbrev pub decreases-list_keeps-ops : goal.decreases-list_keeps-ops
decreases-list_keeps-ops l = length (from_slot l.at (list_at l.sibs.lists l.fn.head))

abbrev pub decreases-op_keeps : goal.decreases-op_keeps
decreases-op_keeps l = 3 * l.levels

abbrev pub decreases-areas_keep : goal.decreases-areas_keep
decreases-areas_keep l = 3 * l.levels + 2

abbrev pub decreases-list_keeps : goal.decreases-list_keeps
decreases-list_keeps l = 3 * l.levels + 1
