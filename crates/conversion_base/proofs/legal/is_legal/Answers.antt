use Rattle.std.proofs.Common.{◌∙◌}
use Rattle.ir_event.specs.trees.Meaning.{isolated_in}
use Rattle.conversion_base.specs.Targets.{target_model}
use Rattle.conversion_base.proofs.Readings.{legal_none, legal_some}
use Rattle.conversion_base.proofs.Shown.{few_shown}
use Rattle.conversion_base.proofs.legal.is_legal.Goals as goal

pub returns-in_default : goal.returns-in_default
returns-in_default c = legal_none (target_model c.args.world.now.ctx c.args.target.now) c.args.world.now.ctx c.args.op c.args.world.now.store.module_of.tree c.in_default.ensures.node

pub is_legal_node-requires-clause-few : goal.is_legal_node-requires-clause-few
is_legal_node-requires-clause-few c = (few_shown (isolated_in c.args.world.now.ctx) c.args.op c.args.world.now.store.module_of.tree c.args.world.now.wellformed.wellformed c.in-Some.node c.in-Some.ensures.node).0

pub returns : goal.returns
returns c = c.is_legal_node.ensures ∙ legal_some (target_model c.args.world.now.ctx c.args.target.now) c.args.world.now.ctx c.args.op c.args.world.now.store.module_of.tree c.in-Some.node c.in-Some.ensures.node
