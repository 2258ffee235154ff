use Rattle.std.proofs.Common.{◌≡◌, length}
use Rattle.greedy.specs.Parts.{any_puts_last}
use Rattle.greedy.proofs.affected.any_puts_last.Given as goal

abbrev pub invariant-events : goal.invariant-events
invariant-events l = any_puts_last l.rest ≡ any_puts_last l.fn.events

abbrev pub decreases-events : goal.decreases-events
decreases-events l = length l.rest
