use Rattle.std.proofs.Common.{◌≡◌, ◌++◌, map, drop}
use Rattle.ir_tree_blocks.specs.Form.{placed_under}
use Rattle.ir_tree_blocks.specs.Read.{ops_meaning}
use Rattle.ir_tree_blocks.specs.Views.{placed_view}
use Rattle.ir_tree_blocks.proofs.placement.+place.Given as goal

abbrev pub invariant-push_region-loop-op : goal.invariant-push_region-loop-op
invariant-push_region-loop-op l =
    map placed_view l.out.items ++ placed_under l.inner.items l.unreachable (ops_meaning l.ctx (drop l.op-index l.op-items))
    ≡ map placed_view l.initial.out.items ++ placed_under l.inner.items l.unreachable (ops_meaning l.ctx l.op-items)
