use Rattle.patterns_regions.proofs.Viewed.{shown_at}
use Rattle.patterns_regions.proofs.block.node_at.Goals as goal

pub returns-clause-node : goal.returns-clause-node
returns-clause-node c = shown_at c.args.world.now.ctx c.args.op c.args.world.now.store.module_of.tree c.shown.result c.shown.ensures.node
