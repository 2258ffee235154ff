use Rattle.std.proofs.Common.{◌≡◌, map, drop}
use Rattle.ir_tree.specs.Tree.{regions_of, ops_of}
use Rattle.ir_tree.specs.Ids.{regions_find, ops_find}
use Rattle.ir_tree.specs.View.{region_view}
use Rattle.ir_tree.proofs.find.+find.Given as goal

abbrev pub invariant-find-loop-region : goal.invariant-find-loop-region
invariant-find-loop-region l =
    regions_find l.id (regions_of (map region_view l.region-items)) ≡ regions_find l.id (regions_of (map region_view (drop l.region-index l.region-items)))

abbrev pub invariant-find_in_region-loop-op : goal.invariant-find_in_region-loop-op
invariant-find_in_region-loop-op l = ops_find l.id (ops_of l.op-items) ≡ ops_find l.id (ops_of (drop l.op-index l.op-items))
