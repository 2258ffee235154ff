use Rattle.std.proofs.Common.{◌≡◌, ◌++◌, ◌∷◌, [], map, drop}
use Rattle.ir_event.specs.trees.Tree.{regions_of, ops_of}
use Rattle.ir_event.specs.trees.View.{region_view}
use Rattle.mlir_work_session_base.specs.IdsText.{ops_line_ids, regions_line_ids}
use Rattle.mlir_work_session_base.proofs.ids.+lines.Given as goal

abbrev pub invariant-push_lines-loop-region : goal.invariant-push_lines-loop-region
invariant-push_lines-loop-region l =
    l.out.items ++ regions_line_ids l.tree-inside.id (regions_of (map region_view (drop l.region-index l.region-items)))
    ≡ l.initial.out.items ++ regions_line_ids l.tree-inside.id (regions_of (map region_view l.region-items))

abbrev pub invariant-push_region_lines-loop-op : goal.invariant-push_region_lines-loop-op
invariant-push_region_lines-loop-op l =
    l.out.items ++ ops_line_ids (ops_of (drop l.op-index l.op-items))
    ≡ l.initial.out.items ++ ops_line_ids (ops_of l.op-items)
