use Rattle.std.proofs.Common.{◌∙◌, ap}
use Rattle.user_patterns_data.specs.Planning.{old_place}
use Rattle.user_patterns_data.specs.Shapes.{pattern_model}
use Rattle.mlir_work_transforms.specs.WhyPattern.{first_place, index_of, index_with}
use Rattle.mlir_work_transforms.proofs.why_types.first_with.Goals as goal

pub returns-in-Some : goal.returns-in-Some
returns-in-Some c =
    let p = pattern_model c.args.pattern.now in
    ap (λ z. first_place (old_place p) z (index_with c.args.number p.old)) (c.in-Some.ensures ∙ ap (index_of c.args.number) c.deref.ensures.value)

pub returns-in-None : goal.returns-in-None
returns-in-None c =
    let p = pattern_model c.args.pattern.now in
    c.first_op_with.ensures ∙ ap (λ z. first_place (old_place p) z (index_with c.args.number p.old)) (c.in-None.ensures ∙ ap (index_of c.args.number) c.deref.ensures.value)
