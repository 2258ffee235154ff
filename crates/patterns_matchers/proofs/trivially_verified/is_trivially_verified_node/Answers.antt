use Rattle.patterns_matchers.proofs.Silent.{plain_is_unbroken, pair_is_unbroken}
use Rattle.patterns_matchers.proofs.trivially_verified.is_trivially_verified_node.Goals as goal

pub returns-then-has_constant_form : goal.returns-then-has_constant_form
returns-then-has_constant_form c e = plain_is_unbroken c.args.world.now.ctx c.args.op c.args.world.now.store.module_of.tree c.args.node.now c.requires.stored (c.has_constant_form.ensures e)

pub returns-else-has_constant_form : goal.returns-else-has_constant_form
returns-else-has_constant_form c e = pair_is_unbroken c.args.world.now.ctx c.args.op c.args.world.now.store.module_of.tree c.args.node.now c.requires.stored (c.has_pair_form.ensures e)
