use Rattle.ir_event.specs.types.Terms.{type_term}
use Rattle.ir_event.proofs.Typed.{value_known}
use Rattle.patterns_matchers.proofs.Resizing.{typed}
use Rattle.std.proofs.Common.{sym, refl}
use Rattle.patterns_matchers.proofs.types.is_of_type.Goals as goal

pub same-requires-clause-a : goal.same-requires-clause-a
same-requires-clause-a c = value_known c.args.world.now c.args.value c.in-Some.own (sym c.in-Some.ensures)

pub returns-in-Some : goal.returns-in-Some
returns-in-Some c = typed c.args.world.now.ctx c.args.world.now.store.module_of.tree c.args.value (type_term c.args.world.now.ctx c.args.ty) _ _ c.in-Some.ensures c.same.ensures

pub returns-in-None : goal.returns-in-None
returns-in-None c = typed c.args.world.now.ctx c.args.world.now.store.module_of.tree c.args.value (type_term c.args.world.now.ctx c.args.ty) _ _ c.in-None.ensures refl
