-- Patterns whose new side makes no signed division.
use Rattle.std.specs.Prelude.{◌≡◌, Bool, true, false, not}
use Rattle.std.specs.List.{list_all}
use Rattle.dialects_int.specs.declared.operations.Arithmetic.TheVariants as op
use Rattle.user_patterns_data.specs.declared.pattern.Expression.{Expression}
use Rattle.user_patterns_data.specs.declared.pattern.Expression.TheVariants as form
use Rattle.user_patterns_data.specs.declared.pattern.NewValue.{NewValue}
use Rattle.user_patterns_data.specs.declared.pattern.NewValue.TheVariants as new
use Rattle.user_patterns_data.specs.Shapes.{PatternModel}
use Rattle.user_patterns_claims.specs.Outcomes.{HoldsAtAllWidths}

abbrev pub is_quotient : Expression → Bool
is_quotient (form.Binary op.DivideSigned i j) = true
is_quotient _ = false

abbrev pub makes_no_quotient : NewValue → Bool
makes_no_quotient (new.Operation o) = not (is_quotient o.form)
makes_no_quotient (new.Constant i t) = true

abbrev pub is_without_quotients : PatternModel → Bool
is_without_quotients p = list_all makes_no_quotient p.new

-- what the claims of a pattern prove: it holds at all widths, and its new side makes no signed division, since no claim
-- has one there
abbrev pub IsProvedByClaims : PatternModel → Type 0
IsProvedByClaims p = HoldsAtAllWidths p × (is_without_quotients p ≡ true)
