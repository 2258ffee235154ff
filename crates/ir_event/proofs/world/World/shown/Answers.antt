use Rattle.std.proofs.Common.{◌∙◌, ap, sym, option_map}
use Rattle.ir_store.specs.Nodes.{node_of}
use Rattle.ir_store.proofs.of_tree_laws.Around.{absent_find}
use Rattle.ir_event.proofs.Shown.{known_there}
use Rattle.ir_event.proofs.world.World.shown.Goals as goal

pub returns-then-not-in_tree-clause-node : goal.returns-then-not-in_tree-clause-node
returns-then-not-in_tree-clause-node c = sym (ap (option_map node_of) (absent_find c.args.op c.args.self.now.store.module_of.tree (sym c.in_tree.ensures ∙ c.if-not-in_tree.true)))

pub returns-clause-node : goal.returns-clause-node
returns-clause-node c = c.node.ensures ∙ ap (option_map node_of) (known_there c.args.op c.args.self.now.store (sym c.in_tree.ensures ∙ c.if-not-in_tree.false))
