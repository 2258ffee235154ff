use Rattle.std.proofs.Common.{◌≡◌, subst}
use Rattle.ir_event.specs.types.Terms.{TypeOf, attr_term, type_term}
use Rattle.ir_event.specs.types.Things.{ContextModel, IsType}
use Rattle.rewriter.specs.Public.{SpellsAttr}
use Rattle.mlir_work_c_read.proofs.intern.intern_type.Goals as goal

pub returns-in-Some-clause-ty : goal.returns-in-Some-clause-ty
returns-in-Some-clause-ty g c =
    let attr = c.in-Ok.attr in
    let ty = c.in-Some.ty in
    let both = subst (λ (d : ContextModel). IsType d ty × (attr_term d attr ≡ TypeOf (type_term d ty))) c.world.ensures.ctx c.in-Some.ensures in
    (both.0, subst (SpellsAttr c.args.bench.now.transaction.ctx.opaque c.args.text.now) both.1 c.in-Ok.ensures.attr.1)
