use Rattle.std.proofs.Common.{◌≡◌}
use Rattle.user_patterns_data.specs.Shapes.{pattern_model}
use Rattle.user_patterns_registry.specs.CheckResult.{default_width, widest}
use Rattle.user_patterns_registry.proofs.widths.default_width.Given as goal

abbrev pub invariant-widths : goal.invariant-widths
invariant-widths l = widest (pattern_model l.fn.pattern) l.width ≡ default_width (pattern_model l.fn.pattern)

abbrev pub decreases-widths : goal.decreases-widths
decreases-widths l = l.width
