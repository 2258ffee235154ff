use Rattle.conversion_base.proofs.Readings.{root_is}
use Rattle.conversion_base.proofs.casts.is_root.Goals as goal

pub returns : goal.returns
returns c = root_is c.args.op c.args.world.now.store.module_of.tree c.args.world.now.wellformed.distinct c.requires c.args.world.now.ctx c.place.result c.place.ensures c.is_none.result c.is_none.ensures
