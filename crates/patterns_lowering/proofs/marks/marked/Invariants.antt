use Rattle.std.proofs.Common.{◌≡◌, ◌≤◌, ◌+◌, length}
use Rattle.patterns_soundness.specs.base.Lowering.{marked}
use Rattle.patterns_lowering.proofs.marks.marked.Given as goal

abbrev pub invariant-marks : goal.invariant-marks
invariant-marks l = record { count : l.count + marked l.rest ≡ marked l.fn.marks; few : l.count + length l.rest ≤ length l.fn.marks }

abbrev pub decreases-marks : goal.decreases-marks
decreases-marks l = length l.rest
