use Rattle.std.proofs.Common.{◌≡◌, ◌++◌, map, drop}
use Rattle.ir_tree.specs.Tree.{regions_of, ops_of}
use Rattle.ir_tree.specs.Ids.{regions_ids, ops_ids}
use Rattle.ir_tree.specs.View.{region_view}
use Rattle.ir_tree.proofs.find.+ids.Given as goal

abbrev pub invariant-push_ids-loop-region : goal.invariant-push_ids-loop-region
invariant-push_ids-loop-region l =
    l.out.items ++ regions_ids (regions_of (map region_view (drop l.region-index l.region-items)))
    ≡ l.initial.out.items ++ regions_ids (regions_of (map region_view l.region-items))

abbrev pub invariant-push_region_ids-loop-op : goal.invariant-push_region_ids-loop-op
invariant-push_region_ids-loop-op l = l.out.items ++ ops_ids (ops_of (drop l.op-index l.op-items)) ≡ l.initial.out.items ++ ops_ids (ops_of l.op-items)
