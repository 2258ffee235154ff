use Rattle.std.proofs.Common.{◌+◌, ◌∙◌, ap, None}
use Rattle.user_patterns_data.specs.Planning.{old_place}
use Rattle.user_patterns_data.specs.Shapes.{pattern_model}
use Rattle.mlir_work_transforms.specs.WhyPattern.{first_place, index_with}
use Rattle.mlir_work_transforms.proofs.why_types.first_op_with.Goals as goal

pub returns-in-Some : goal.returns-in-Some
returns-in-Some c =
    ap (λ z. z + c.in-Some.index) c.old_begins.ensures.place
    ∙ ap (first_place (old_place (pattern_model c.args.pattern.now)) None) (c.in-Some.ensures ∙ ap (index_with c.args.number) c.deref.ensures.value)

pub returns-in-None : goal.returns-in-None
returns-in-None c =
    ap (first_place (old_place (pattern_model c.args.pattern.now)) None) (c.in-None.ensures ∙ ap (index_with c.args.number) c.deref.ensures.value)
