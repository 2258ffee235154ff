use Rattle.std.proofs.Common.{◌≡◌, ◌≤◌, ◌-◌, ◌^◌, min, max, map, drop}
use Rattle.ir_tree.specs.Tree.{regions_of, ops_of}
use Rattle.ir_tree.specs.Limits.{regions_depth, ops_depth}
use Rattle.ir_tree.specs.View.{region_view}
use Rattle.ir_tree.proofs.count.+depth.Given as goal

abbrev pub invariant-depth-loop-region : goal.invariant-depth-loop-region
invariant-depth-loop-region l =
    (l.most ≤ 2 ^ 64 - 1)
    × (min (max l.most (regions_depth (regions_of (map region_view (drop l.region-index l.region-items))))) (2 ^ 64 - 1)
    ≡ min (regions_depth (regions_of (map region_view l.region-items))) (2 ^ 64 - 1))

abbrev pub invariant-depth_of_region-loop-op : goal.invariant-depth_of_region-loop-op
invariant-depth_of_region-loop-op l =
    (l.most ≤ 2 ^ 64 - 1)
    × (min (max l.most (ops_depth (ops_of (drop l.op-index l.op-items)))) (2 ^ 64 - 1) ≡ min (ops_depth (ops_of l.op-items)) (2 ^ 64 - 1))
