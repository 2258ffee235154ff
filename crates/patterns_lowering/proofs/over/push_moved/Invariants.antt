use Rattle.std.proofs.Common.{◌≡◌, ◌++◌, length}
use Rattle.patterns_lowering.specs.Numbers.{move_edits}
use Rattle.patterns_lowering.proofs.over.push_moved.Given as goal

abbrev pub invariant-ops : goal.invariant-ops
invariant-ops l = l.edits.items ++ move_edits l.fn.place l.rest ≡ l.initial.edits.items ++ move_edits l.fn.place l.fn.ops

abbrev pub decreases-ops : goal.decreases-ops
decreases-ops l = length l.rest
