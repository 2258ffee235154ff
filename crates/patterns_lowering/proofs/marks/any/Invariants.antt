use Rattle.std.proofs.Common.{◌≡◌, length}
use Rattle.patterns_soundness.specs.base.Lowering.{any}
use Rattle.patterns_lowering.proofs.marks.any.Given as goal

abbrev pub invariant-marks : goal.invariant-marks
invariant-marks l = any l.rest ≡ any l.fn.marks

abbrev pub decreases-marks : goal.decreases-marks
decreases-marks l = length l.rest
