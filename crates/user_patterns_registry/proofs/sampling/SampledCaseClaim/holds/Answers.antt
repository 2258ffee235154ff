use Rattle.std.proofs.Common.{◌≡◌, ◌∙◌, Bool, IfOk, subst}
use Rattle.user_patterns_check.specs.Contents.{content}
use Rattle.user_patterns_data.specs.Shapes.{pattern_model}
use Rattle.user_patterns_registry.proofs.Trying.{keeps_is_tried}
use Rattle.user_patterns_registry.proofs.sampling.SampledCaseClaim.holds.Goals as goal

pub returns : goal.returns
returns c =
    let p = pattern_model c.args.self.now.pattern.now in
    let s = content c.in_ok-sides.sides in
    let values = c.deref-3.result.now in
    let is =
    keeps_is_tried p c.args.self.now.near.now c.args.self.now.width c.args.numbers.now c.deref.result.now values c.deref-2.result.now c.number_of_case-case.result s
    (c.deref.ensures.value ∙ c.in_ok-widths.ensures) c.in_ok-sides.ensures c.deref-2.ensures.value c.number_of_case-case.ensures
    (c.deref-3.ensures.value ∙ c.in_ok-values.ensures) in
    subst (λ (k : Bool). IfOk c.holds.result (λ b. b ≡ k)) is c.holds.ensures
