use Rattle.std.proofs.Common.{◌≡◌, ◌≤◌, ◌+◌, ◌^◌, map, drop}
use Rattle.ir_tree.specs.Tree.{regions_of, ops_of}
use Rattle.ir_tree.specs.Numbered.{regions_after, ops_after}
use Rattle.ir_tree.specs.View.{region_view}
use Rattle.ir_tree.proofs.numbered.+numbered.Given as goal

abbrev pub invariant-number_after-loop-region : goal.invariant-number_after-loop-region
invariant-number_after-loop-region l =
    (l.next ≤ 2 ^ 32)
    × (regions_after (l.from + 1) (regions_of (map region_view l.region-items)) ≡ regions_after l.next (regions_of (map region_view (drop l.region-index l.region-items))))

abbrev pub invariant-number_after_region-loop-op : goal.invariant-number_after_region-loop-op
invariant-number_after_region-loop-op l =
    (l.next ≤ 2 ^ 32) × (ops_after l.from (ops_of l.op-items) ≡ ops_after l.next (ops_of (drop l.op-index l.op-items)))
