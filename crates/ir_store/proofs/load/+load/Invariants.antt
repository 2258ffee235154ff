use Rattle.std.proofs.Common.{◌*◌, ◌+◌, map, drop}
use Rattle.ir_store_reads.specs.trees.Tree.{regions_of, ops_of, op_size, regions_size, region_size}
use Rattle.ir_store_reads.specs.trees.Ids.{regions_ids, region_ids}
use Rattle.ir_store_reads.specs.trees.View.{region_view}
use Rattle.ir_store.specs.Loads.{put_region, put_regions, RegionsLeft, OpsLeft}
use Rattle.ir_store.proofs.load.+load.Given as goal

abbrev pub invariant-load_region-loop-op : goal.invariant-load_region-loop-op
invariant-load_region-loop-op l = OpsLeft l.owner l.number (ops_of (drop l.op-index l.op-items)) (put_region l.owner l.number (region_view l.region) l.initial.store.module_of.tree) (region_ids (region_view l.region)) l.initial.store l.store

abbrev pub invariant-load_regions-loop-region : goal.invariant-load_regions-loop-region
invariant-load_regions-loop-region l =
    RegionsLeft l.owner l.number (regions_of (map region_view (drop l.region-index l.regions.items))) (put_regions l.owner 0 (regions_of (map region_view l.regions.items)) l.initial.store.module_of.tree) (regions_ids (regions_of (map region_view l.regions.items))) l.initial.store l.store

abbrev pub decreases-load_op : goal.decreases-load_op
decreases-load_op l = 2 * op_size l.op.now

abbrev pub decreases-load_regions : goal.decreases-load_regions
decreases-load_regions l = 2 * regions_size (regions_of (map region_view l.regions.now.items)) + 1

abbrev pub decreases-load_region : goal.decreases-load_region
decreases-load_region l = 2 * region_size (region_view l.region.now)
