use Rattle.std.proofs.Common.{sym}
use Rattle.ir_event.specs.types.Terms.{Index}
use Rattle.ir_event.proofs.Typed.{value_known}
use Rattle.conversion_base.proofs.Readings.{of_type_none, of_type_some}
use Rattle.conversion_base.proofs.legal.is_index_value.Goals as goal

pub is_index-requires : goal.is_index-requires
is_index-requires c = value_known c.args.world.now c.args.value.now c.in-Some.ty (sym c.in-Some.ensures)

pub returns-in-Some : goal.returns-in-Some
returns-in-Some c = of_type_some c.args.world.now.ctx c.args.world.now.store.module_of.tree c.args.value.now c.in-Some.ty Index c.in-Some.ensures c.is_index.result c.is_index.ensures

pub returns-in-None : goal.returns-in-None
returns-in-None c = of_type_none c.args.world.now.ctx c.args.world.now.store.module_of.tree c.args.value.now Index c.in-None.ensures
