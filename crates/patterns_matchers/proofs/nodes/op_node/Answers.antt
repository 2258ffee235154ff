use Rattle.patterns_matchers.proofs.Meant.{shown_meant}
use Rattle.patterns_matchers.proofs.nodes.op_node.Goals as goal

pub returns-clause-node : goal.returns-clause-node
returns-clause-node c = shown_meant c.args.world.now.ctx c.args.op c.args.world.now.store.module_of.tree c.shown.result c.shown.ensures.node
