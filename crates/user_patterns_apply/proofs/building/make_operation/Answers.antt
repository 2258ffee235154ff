use Rattle.std.proofs.Common.{ap, sym, ◌∙◌, map}
use Rattle.dialects_int.specs.Folds.{known_of}
use Rattle.std.specs.Prelude.{option_map}
use Rattle.user_patterns_apply.proofs.Additions.{made_is, made_not, made_untyped}
use Rattle.user_patterns_apply.proofs.building.make_operation.Goals as goal

pub returns-in_default-2-clause-made : goal.returns-in_default-2-clause-made
returns-in_default-2-clause-made c n = made_not c.args.ctx.now n c.args.types.now (map known_of c.args.env.now) c.args.operands.now c.args.pattern_op.now (ap (option_map (λ v. v.items)) (sym c.in_default-2.is) ∙ c.in_ok-operands.ensures)

pub returns-in_default-type_at-clause-made : goal.returns-in_default-type_at-clause-made
returns-in_default-type_at-clause-made c n =
    made_untyped c.args.ctx.now n c.args.types.now (map known_of c.args.env.now) c.args.operands.now c.args.pattern_op.now c.in-Some-2.operands.items (ap (option_map (λ v. v.items)) (sym c.in-Some-2.is) ∙ c.in_ok-operands.ensures) (c.in_default-type_at.ensures.is c.args.ctx.now)

pub returns-clause-made : goal.returns-clause-made
returns-clause-made c n =
    made_is c.args.ctx.now n c.args.types.now (map known_of c.args.env.now) c.args.operands.now c.args.pattern_op.now (record { word = c.in-Some.word; operands = c.in-Some-2.operands; ty = c.in-Some-type_at.ty; property = c.property_for.result })
    (ap (option_map (λ v. v.items)) (sym c.in-Some-2.is) ∙ c.in_ok-operands.ensures) (c.in-Some-type_at.ensures.is c.args.ctx.now) c.in-Some.ensures c.property_for.ensures
