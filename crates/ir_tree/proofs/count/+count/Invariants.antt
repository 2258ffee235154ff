use Rattle.std.proofs.Common.{◌≡◌, ◌≤◌, ◌+◌, ◌-◌, ◌^◌, min, length, map, drop}
use Rattle.ir_tree.specs.Tree.{regions_of, ops_of}
use Rattle.ir_tree.specs.Ids.{regions_ids, ops_ids}
use Rattle.ir_tree.specs.View.{region_view}
use Rattle.ir_tree.proofs.count.+count.Given as goal

abbrev pub invariant-op_count-loop-region : goal.invariant-op_count-loop-region
invariant-op_count-loop-region l =
    (l.count ≤ 2 ^ 64 - 1)
    × (min (l.count + length (regions_ids (regions_of (map region_view (drop l.region-index l.region-items))))) (2 ^ 64 - 1)
    ≡ min (1 + length (regions_ids (regions_of (map region_view l.region-items)))) (2 ^ 64 - 1))

abbrev pub invariant-region_op_count-loop-op : goal.invariant-region_op_count-loop-op
invariant-region_op_count-loop-op l =
    (l.count ≤ 2 ^ 64 - 1)
    × (min (l.count + length (ops_ids (ops_of (drop l.op-index l.op-items)))) (2 ^ 64 - 1) ≡ min (length (ops_ids (ops_of l.op-items))) (2 ^ 64 - 1))
