use Rattle.std.proofs.Common.{sym}
use Rattle.ir_event.proofs.Typed.{value_known}
use Rattle.ir_event.specs.Modules.{module_in}
use Rattle.patterns_base.specs.Looks.{is_verified}
use Rattle.user_patterns_apply.specs.Types.{types_in}
use Rattle.user_patterns_apply.proofs.TypesAt.{typed_by, untyped}
use Rattle.user_patterns_apply.proofs.typing.bind_type_at.Goals as goal

pub returns-in_default-value_type-clause-stands : goal.returns-in_default-value_type-clause-stands
returns-in_default-value_type-clause-stands c =
    let w = c.args.world.now in
    untyped w.ctx w.store.module_of.tree (is_verified (module_in w).tree) c.args.place c.args.number c.args.values.now (types_in w.ctx c.args.types.now) _ c.in-Some.value c.in-Some.ensures c.in_default-value_type.ensures

pub bind_type-requires-clause-ty : goal.bind_type-requires-clause-ty
bind_type-requires-clause-ty c = value_known c.args.world.now c.in-Some.value c.in-Some-value_type.ty (sym c.in-Some-value_type.ensures)

pub returns-clause-stands : goal.returns-clause-stands
returns-clause-stands c =
    let w = c.args.world.now in
    typed_by w.ctx w.store.module_of.tree (is_verified (module_in w).tree) c.args.place c.args.number c.args.values.now (types_in w.ctx c.args.types.now) (types_in w.ctx c.bind_type.new.types) c.in-Some.value c.in-Some.ensures c.in-Some-value_type.ty c.in-Some-value_type.ensures c.bind_type.result c.bind_type.ensures.stands
