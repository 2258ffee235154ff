use Rattle.std.proofs.Common.{◌≡◌, ◌++◌, drop}
use Rattle.ir_tree_blocks.proofs.nesting.copies.Given as goal

abbrev pub invariant-loop-op : goal.invariant-loop-op
invariant-loop-op l = l.copies.items ++ drop l.op-index l.op-items ≡ l.op-items
