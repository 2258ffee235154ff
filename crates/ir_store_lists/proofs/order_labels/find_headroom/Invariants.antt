use Rattle.std.proofs.Common.{◌-◌}
use Rattle.ir_store_lists.specs.Lists.{home_at, list_at}
use Rattle.ir_store_lists.specs.Labels.{from}
use Rattle.ir_store_lists.proofs.LabelWalks.{Ahead}
use Rattle.ir_store_lists.proofs.order_labels.find_headroom.Given as goal

abbrev pub invariant-nodes : goal.invariant-nodes
invariant-nodes l = Ahead l.chains (home_at l.chains.homes l.node) (from l.node (list_at l.chains.lists (home_at l.chains.homes l.node))) l.next l.count

abbrev pub decreases-nodes : goal.decreases-nodes
decreases-nodes l = 4294967296 - l.count
