use Rattle.std.proofs.Common.{◌≡◌, length}
use Rattle.user_patterns_widths.specs.AllWidths.{formal_numbers}
use Rattle.user_patterns_widths.specs.Views.{formal_view}
use Rattle.user_patterns_widths.proofs.symbolic.push_numbers.Given as goal

abbrev pub invariant-numbers : goal.invariant-numbers
invariant-numbers l = formal_numbers l.rest (formal_view l.env.items) ≡ formal_numbers l.fn.numbers (formal_view l.fn.env.items)

abbrev pub decreases-numbers : goal.decreases-numbers
decreases-numbers l = length l.rest
