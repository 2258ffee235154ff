use Rattle.std.proofs.Common.{refl}
use Rattle.ir_event.specs.types.Terms.{type_term}
use Rattle.ir_event.specs.types.SameTypes.{same_type}
use Rattle.user_patterns_apply.specs.Types.{type_in}
use Rattle.user_patterns_apply.specs.declared.types.BoundType.TheVariants.{Matched}
use Rattle.user_patterns_apply.proofs.Binding.{bound_free}
use Rattle.user_patterns_apply.proofs.typing.bind_type.Goals as goal

pub returns-in-None-clause-stands : goal.returns-in-None-clause-stands
returns-in-None-clause-stands c = bound_free (type_in c.args.ctx.now) same_type c.args.types.now c.args.number (type_term c.args.ctx.now c.args.ty) _ (Matched c.args.ty) c.if-number-types.false c.in-None.is refl
