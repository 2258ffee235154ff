use Rattle.std.proofs.Common.{sym}
use Rattle.patterns_base.specs.Made.{i64}
use Rattle.ir_event.proofs.Typed.{value_known}
use Rattle.conversion_base.proofs.Readings.{of_type_none, of_type_some}
use Rattle.conversion_base.proofs.casts.is_i64_value.Goals as goal

pub is_i64-requires : goal.is_i64-requires
is_i64-requires c = value_known c.args.world.now c.args.value.now c.in-Some.ty (sym c.in-Some.ensures)

pub returns-in-Some : goal.returns-in-Some
returns-in-Some c = of_type_some c.args.world.now.ctx c.args.world.now.store.module_of.tree c.args.value.now c.in-Some.ty i64 c.in-Some.ensures c.is_i64.result c.is_i64.ensures

pub returns-in-None : goal.returns-in-None
returns-in-None c = of_type_none c.args.world.now.ctx c.args.world.now.store.module_of.tree c.args.value.now i64 c.in-None.ensures
