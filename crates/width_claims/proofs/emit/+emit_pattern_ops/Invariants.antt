use Rattle.std.proofs.Common.{length}
use Rattle.width_claims.proofs.emit.+emit_pattern_ops.Given as goal

abbrev pub decreases-emit_pattern_ops : goal.decreases-emit_pattern_ops
decreases-emit_pattern_ops l = length l.exprs.now
