use Rattle.std.proofs.Common.{◌≡◌, ◌≤◌, ◌+◌, ◌++◌, length}
use Rattle.ir_event.specs.trees.Limits.{most_next}
use Rattle.patterns_soundness.specs.base.Lowering.{marked}
use Rattle.patterns_lowering.specs.Numbers.{crossing_edits}
use Rattle.patterns_lowering.proofs.over.push_crossing.Given as goal

abbrev pub invariant-marks : goal.invariant-marks
invariant-marks l = record { edits : l.edits.items ++ crossing_edits l.fn.op l.operand l.next l.rest ≡ l.initial.edits.items ++ crossing_edits l.fn.op 0 l.fn.first l.fn.marks; headroom : l.next + marked l.rest ≤ most_next; operand : l.operand + length l.rest ≡ length l.fn.marks }

abbrev pub decreases-marks : goal.decreases-marks
decreases-marks l = length l.rest
