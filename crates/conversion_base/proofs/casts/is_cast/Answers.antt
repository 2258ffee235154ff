use Rattle.conversion_base.proofs.Readings.{cast_none, cast_some}
use Rattle.conversion_base.proofs.casts.is_cast.Goals as goal

pub returns-in_default : goal.returns-in_default
returns-in_default c = cast_none c.args.world.now.ctx c.args.op c.args.world.now.store.module_of.tree c.in_default.ensures.node

pub returns : goal.returns
returns c = cast_some c.args.world.now.ctx c.args.op c.args.world.now.store.module_of.tree c.in-Some.node c.in-Some.ensures.node c.name.result c.name.ensures c.is_word.result c.is_word.ensures
