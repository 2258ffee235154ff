use Rattle.std.proofs.Common.{◌≡◌, ◌∙◌, ap, subst, IfOk, List}
use Rattle.ir_types.specs.declared.bits.BitsKind.{BitsKind}
use Rattle.user_patterns_check.specs.Contents.{content}
use Rattle.user_patterns_data.specs.Fitting.{content_with, kinds_with}
use Rattle.user_patterns_data.specs.Shapes.{pattern_model}
use Rattle.user_patterns_data.proofs.sides.PatternFamily.sides.Goals as goal

pub returns : goal.returns
returns c =
    subst (λ (ks : List BitsKind). IfOk c.with_kinds.result (λ s. content s ≡ content_with ks (pattern_model c.args.self.now)))
    (c.deref-2.ensures.value ∙ c.in_ok-value_types.ensures ∙ ap (kinds_with c.args.widths.now) c.deref.ensures.value) c.with_kinds.ensures
