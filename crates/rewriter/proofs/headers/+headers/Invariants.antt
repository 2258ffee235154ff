use Rattle.std.proofs.Common.{◌≡◌, ◌++◌, map, drop}
use Rattle.ir_event.specs.trees.Tree.{regions_of, ops_of}
use Rattle.ir_event.specs.trees.View.{region_view}
use Rattle.rewriter_machine.specs.Inserting.{regions_headers, ops_headers}
use Rattle.rewriter.proofs.headers.+headers.Given as goal

abbrev pub invariant-push_inner_headers-loop-region : goal.invariant-push_inner_headers-loop-region
invariant-push_inner_headers-loop-region l =
    l.out.items ++ regions_headers l.parent l.number (regions_of (map region_view (drop l.region-index l.region-items)))
    ≡ l.initial.out.items ++ regions_headers l.parent 0 (regions_of (map region_view l.region-items))

abbrev pub invariant-push_region_headers-loop-op : goal.invariant-push_region_headers-loop-op
invariant-push_region_headers-loop-op l = l.out.items ++ ops_headers l.parent l.number (ops_of (drop l.op-index l.op-items)) ≡ l.initial.out.items ++ ops_headers l.parent l.number (ops_of l.op-items)
