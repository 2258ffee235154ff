use Rattle.std.proofs.Common.{◌∙◌, ap, arith, ℕ, ◌+◌}
use Rattle.dialects_int.proofs.Widths.{half_le}
use Rattle.user_patterns_widths.proofs.Wide.{above_half_stays}
use Rattle.user_patterns_widths.proofs.edges.above_half.Goals as goal

pub overflow_add-result : goal.overflow_add-result
overflow_add-result c = omega (arith, c.power.ensures, half_le c.args.width c.requires.high)

pub returns-else-width-eq1 : goal.returns-else-width-eq1
returns-else-width-eq1 c =
    ap (λ (n : ℕ). n + 1) c.power.ensures ∙ above_half_stays c.args.width (omega arith)
