use Rattle.std.proofs.Common.{◌≡◌, ◌≤◌, ◌+◌, ◌++◌, length}
use Rattle.ir_event.specs.trees.Limits.{most_next}
use Rattle.patterns_soundness.specs.base.Lowering.{crossed, marked}
use Rattle.patterns_lowering.proofs.lists.crossed.Given as goal

abbrev pub invariant-marks : goal.invariant-marks
invariant-marks l = record { values : l.casts.items ++ crossed l.next l.left l.right ≡ crossed l.fn.first l.fn.marks l.fn.values; headroom : l.next + marked l.left ≤ most_next }

abbrev pub decreases-marks : goal.decreases-marks
decreases-marks l = length l.left
