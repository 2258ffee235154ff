use Rattle.std.proofs.Common.{◌≡◌, length}
use Rattle.user_patterns_widths.specs.AllWidths.{formal_extras}
use Rattle.user_patterns_widths.specs.Views.{formal_view}
use Rattle.user_patterns_widths.proofs.symbolic.push_extras.Given as goal

abbrev pub invariant-extra : goal.invariant-extra
invariant-extra l = formal_extras l.rest (formal_view l.env.items) ≡ formal_extras l.fn.extra (formal_view l.fn.env.items)

abbrev pub decreases-extra : goal.decreases-extra
decreases-extra l = length l.rest
