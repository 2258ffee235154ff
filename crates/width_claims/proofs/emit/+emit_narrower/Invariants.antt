use Rattle.std.proofs.Common.{length}
use Rattle.width_claims.proofs.emit.+emit_narrower.Given as goal

abbrev pub decreases-emit_narrower : goal.decreases-emit_narrower
decreases-emit_narrower l = length l.narrower.now
