use Rattle.std.proofs.Common.{◌≡◌, ◌++◌, drop}
use Rattle.ir_tree_blocks.specs.Form.{named_in}
use Rattle.ir_tree_blocks.specs.Read.{ops_meaning}
use Rattle.ir_tree_blocks.proofs.placement.named.Given as goal

abbrev pub invariant-loop-op : goal.invariant-loop-op
invariant-loop-op l = l.names.items ++ named_in (ops_meaning l.ctx (drop l.op-index l.op-items)) ≡ named_in (ops_meaning l.ctx l.op-items)
