use Rattle.conversion_base.proofs.Readings.{cast_is_there}
use Rattle.conversion_base.proofs.casts.is_inner_cast.Goals as goal

pub is_root-requires : goal.is_root-requires
is_root-requires c = cast_is_there c.args.world.now.ctx c.args.op c.args.world.now.store.module_of.tree c.is_cast.result c.is_cast.ensures c.if-is_cast.true
