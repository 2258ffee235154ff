use Rattle.std.proofs.Common.{◌*◌, ◌+◌, map, take}
use Rattle.ir_store_slots.specs.trees.Tree.{regions_of, ops_of}
use Rattle.ir_store_slots.specs.trees.View.{region_view}
use Rattle.ir_store_slots.specs.Rows.{shape_of}
use Rattle.ir_store_slots.specs.Spells.{SpellsRegions, SpellsOps}
use Rattle.ir_store_reads.proofs.copy.+copy.Given as goal

abbrev pub invariant-copy_regions-loop-area : goal.invariant-copy_regions-loop-area
invariant-copy_regions-loop-area l = SpellsRegions l.slots l.sibs.lists (map shape_of (take l.area-index l.areas)) (regions_of (map region_view l.regions.items))

abbrev pub invariant-copy_region-loop-key : goal.invariant-copy_region-loop-key
invariant-copy_region-loop-key l = SpellsOps l.slots l.sibs.lists (take l.key-index l.key-items) (ops_of l.ops.items)

abbrev pub decreases-copy_op : goal.decreases-copy_op
decreases-copy_op l = 3 * l.levels

abbrev pub decreases-copy_regions : goal.decreases-copy_regions
decreases-copy_regions l = 3 * l.levels + 2

abbrev pub decreases-copy_region : goal.decreases-copy_region
decreases-copy_region l = 3 * l.levels + 1
