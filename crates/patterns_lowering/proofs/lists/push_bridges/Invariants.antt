use Rattle.std.proofs.Common.{◌≡◌, ◌++◌, length}
use Rattle.patterns_lowering.specs.Numbers.{bridge_edits}
use Rattle.patterns_lowering.proofs.lists.push_bridges.Given as goal

abbrev pub invariant-marks : goal.invariant-marks
invariant-marks l = l.edits.items ++ bridge_edits l.fn.ty l.fn.place l.left l.right ≡ l.initial.edits.items ++ bridge_edits l.fn.ty l.fn.place l.fn.marks l.fn.values

abbrev pub decreases-marks : goal.decreases-marks
decreases-marks l = length l.left
