use Rattle.std.proofs.Common.{◌-◌, ◌++◌, length}
use Rattle.ir_store_lists.specs.Lists.{list_at}
use Rattle.ir_store_lists.proofs.Walks.{Walk}
use Rattle.ir_store_lists.proofs.chains.LinkedLists.nodes.Given as goal

abbrev pub invariant-loop-node : goal.invariant-loop-node
invariant-loop-node l = Walk l.links.items l.head l.node l.out.items (l.fn.out.items ++ list_at l.self.lists l.head)

abbrev pub decreases-loop-node : goal.decreases-loop-node
decreases-loop-node l = length (l.fn.out.items ++ list_at l.self.lists l.head) - length l.out.items
