use Rattle.std.proofs.Common.{◌≡◌, length}
use Rattle.std.specs.Str.{bytes_eq}
use Rattle.ir_text_operations.specs.OpReading.{bound_types}
use Rattle.ir_text_operations.proofs.operands.agrees.Given as goal

abbrev pub invariant-items : goal.invariant-items
invariant-items l = bytes_eq (bound_types l.left) l.right ≡ bytes_eq (bound_types l.operands) l.inputs

abbrev pub decreases-items : goal.decreases-items
decreases-items l = length l.left
