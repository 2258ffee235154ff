use Rattle.std.proofs.Common.{length}
use Rattle.ir_text_operations.proofs.scalar_signature.+after_more_inputs.Given as goal

abbrev pub decreases-after_more_inputs : goal.decreases-after_more_inputs
decreases-after_more_inputs l = length l.operands.now
