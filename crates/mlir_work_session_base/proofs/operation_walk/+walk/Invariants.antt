use Rattle.std.proofs.Common.{◌≡◌, drop, map}
use Rattle.std.specs.Prelude.{IsTrue}
use Rattle.ir_event.specs.trees.Limits.{ops_every, regions_every}
use Rattle.ir_event.specs.trees.Meaning.{is_attr, is_name, is_type}
use Rattle.ir_event.specs.trees.Passing.{op_passes}
use Rattle.ir_event.specs.trees.Tree.{ops_of, regions_of}
use Rattle.ir_event.specs.trees.View.{region_view}
use Rattle.ir_text.specs.View.{ops_in, regions_in}
use Rattle.mlir_work_session_base.specs.OperationWalk.{all_visited, walk_view}
use Rattle.mlir_work_session_base.specs.PlacedOps.{ops_placed, regions_placed}
use Rattle.mlir_work_session_base.proofs.operation_walk.+walk.Given as goal

abbrev pub invariant-walk_op-regions : goal.invariant-walk_op-regions
invariant-walk_op-regions l = record {
  walk : all_visited (regions_placed l.tree-inside.id l.number (regions_in l.ctx (drop l.number l.tree-inside.regions.items))) (walk_view l.writer)
      ≡ all_visited (regions_placed l.tree-inside.id 0 (regions_in l.ctx l.tree-inside.regions.items)) (walk_view l.initial.writer);
  inside : IsTrue (regions_every (op_passes (is_name l.ctx) (is_type l.ctx) (is_attr l.ctx)) (regions_of (map region_view (drop l.number l.tree-inside.regions.items))));
}

abbrev pub invariant-walk_region-ops : goal.invariant-walk_region-ops
invariant-walk_region-ops l = record {
  walk : all_visited (ops_placed l.parent l.number l.index (ops_in l.ctx (drop l.index l.op-items))) (walk_view l.writer)
      ≡ all_visited (ops_placed l.parent l.number 0 (ops_in l.ctx l.op-items)) (walk_view l.initial.writer);
  inside : IsTrue (ops_every (op_passes (is_name l.ctx) (is_type l.ctx) (is_attr l.ctx)) (ops_of (drop l.index l.op-items)));
}
