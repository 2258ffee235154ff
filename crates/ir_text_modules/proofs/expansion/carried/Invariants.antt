use Rattle.std.proofs.Common.{◌≡◌, length}
use Rattle.ir_text_modules.specs.Marks.{carried}
use Rattle.ir_text_modules.proofs.expansion.carried.Given as goal

abbrev pub invariant-marks : goal.invariant-marks
invariant-marks l = carried l.len l.rest l.end l.at ≡ carried l.len l.marks l.end l.at

abbrev pub decreases-marks : goal.decreases-marks
decreases-marks l = length l.rest
