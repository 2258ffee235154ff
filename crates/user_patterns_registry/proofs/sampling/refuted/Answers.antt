use Rattle.std.proofs.Common.{◌∙◌}
use Rattle.user_patterns_check.specs.Contents.{content}
use Rattle.user_patterns_data.specs.Shapes.{pattern_model}
use Rattle.user_patterns_registry.proofs.Trying.{refuted, values_are_tried}
use Rattle.user_patterns_registry.proofs.sampling.refuted.Goals as goal

pub returns : goal.returns
returns c =
    let p = pattern_model c.args.pattern.now in
    let s = content c.in_ok-sides.sides in
    let those =
    values_are_tried p c.args.near.now c.args.width c.args.numbers.now c.deref.result.now c.in_ok-values.values.items c.deref-2.result.now c.number_of_case-case.result s
    (c.deref.ensures.value ∙ c.in_ok-widths.ensures) c.in_ok-sides.ensures c.deref-2.ensures.value c.number_of_case-case.ensures c.in_ok-values.ensures in
    refuted p c.args.near.now c.args.width c.args.numbers.now c.in_ok-widths.widths c.in_ok-values.values c.requires c.in_ok-widths.ensures those
    c.counterexample.result c.counterexample.ensures.widths c.counterexample.ensures.values c.counterexample.ensures.width c.counterexample.ensures.shown
