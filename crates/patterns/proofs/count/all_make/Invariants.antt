use Rattle.std.proofs.Common.{◌≡◌, ◌≤◌, ◌+◌, length}
use Rattle.patterns.specs.Making.{all_make}
use Rattle.patterns.proofs.count.all_make.Given as goal

abbrev pub invariant-edits : goal.invariant-edits
invariant-edits l = (l.count + all_make l.rest ≡ all_make l.fn.edits) × (l.count + length l.rest ≤ length l.fn.edits)

abbrev pub decreases-edits : goal.decreases-edits
decreases-edits l = length l.rest
