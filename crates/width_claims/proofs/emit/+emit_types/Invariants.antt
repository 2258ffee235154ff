use Rattle.std.proofs.Common.{length}
use Rattle.width_claims.proofs.emit.+emit_types.Given as goal

abbrev pub decreases-emit_types : goal.decreases-emit_types
decreases-emit_types l = length l.types.now
