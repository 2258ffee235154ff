use Rattle.std.proofs.Common.{◌≡◌, length}
use Rattle.user_patterns_widths.specs.AllWidths.{formal_values}
use Rattle.user_patterns_widths.specs.Views.{formal_view}
use Rattle.user_patterns_widths.proofs.symbolic.push_values.Given as goal

abbrev pub invariant-values : goal.invariant-values
invariant-values l = formal_values l.rest (formal_view l.env.items) ≡ formal_values l.fn.values (formal_view l.fn.env.items)

abbrev pub decreases-values : goal.decreases-values
decreases-values l = length l.rest
