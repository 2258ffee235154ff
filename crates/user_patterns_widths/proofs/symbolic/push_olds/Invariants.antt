use Rattle.std.proofs.Common.{◌≡◌, length}
use Rattle.user_patterns_widths.specs.AllWidths.{formal_olds}
use Rattle.user_patterns_widths.specs.Views.{formal_view}
use Rattle.user_patterns_widths.proofs.symbolic.push_olds.Given as goal

abbrev pub invariant-old : goal.invariant-old
invariant-old l = formal_olds l.rest (formal_view l.env.items) ≡ formal_olds l.fn.old (formal_view l.fn.env.items)

abbrev pub decreases-old : goal.decreases-old
decreases-old l = length l.rest
