use Rattle.std.proofs.Common.{take}
use Rattle.ir_store_lists.specs.Lists.{home_at, list_at}
use Rattle.ir_store_lists.specs.Labels.{from}
use Rattle.ir_store_lists.proofs.LabelWalks.{Walk}
use Rattle.ir_store_lists.proofs.order_labels.relabel.Given as goal

abbrev pub invariant-nodes : goal.invariant-nodes
invariant-nodes l = Walk l.chains (home_at l.chains.homes l.node) l.gap (take l.headroom.count (from l.node (list_at l.chains.lists (home_at l.chains.homes l.node)))) l.low l.fn.labels l.next l.left l.label l.labels

abbrev pub decreases-nodes : goal.decreases-nodes
decreases-nodes l = l.left
