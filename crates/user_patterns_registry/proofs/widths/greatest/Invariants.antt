use Rattle.std.proofs.Common.{◌≡◌, length, max}
use Rattle.user_patterns_registry.specs.Shown.{greatest}
use Rattle.user_patterns_registry.proofs.widths.greatest.Given as goal

abbrev pub invariant-widths : goal.invariant-widths
invariant-widths l = max l.most (greatest l.rest) ≡ greatest l.fn.widths

abbrev pub decreases-widths : goal.decreases-widths
decreases-widths l = length l.rest
