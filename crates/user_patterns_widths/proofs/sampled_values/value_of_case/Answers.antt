use Rattle.std.proofs.Common.{◌∙◌, ap, ℕ}
use Rattle.user_patterns_widths.specs.SampledValues.{value_of_case}
use Rattle.user_patterns_widths.proofs.Wide.{tried_at}
use Rattle.user_patterns_widths.proofs.sampled_values.value_of_case.Goals as goal

pub returns : goal.returns
returns c =
    c.value_at.ensures
    ∙ tried_at c.args.near.now c.width-width.result c.args.case c.args.place c.if-width-lt1.false c.if-width-gt-MOST_WIDTH.false
    ∙ ap (λ (w : ℕ). value_of_case c.args.near.now w c.args.case c.args.place) c.width-width.ensures
