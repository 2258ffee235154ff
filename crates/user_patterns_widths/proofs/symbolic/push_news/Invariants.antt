use Rattle.std.proofs.Common.{◌≡◌, length}
use Rattle.user_patterns_widths.specs.AllWidths.{formal_news}
use Rattle.user_patterns_widths.specs.Views.{formal_view}
use Rattle.user_patterns_widths.proofs.symbolic.push_news.Given as goal

abbrev pub invariant-new : goal.invariant-new
invariant-new l = formal_news l.rest (formal_view l.env.items) ≡ formal_news l.fn.new (formal_view l.fn.env.items)

abbrev pub decreases-new : goal.decreases-new
decreases-new l = length l.rest
