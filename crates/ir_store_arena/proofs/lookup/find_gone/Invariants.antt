use Rattle.std.proofs.Common.{length}
use Rattle.ir_store_arena.proofs.Lookups.{Fled}
use Rattle.ir_store_arena.proofs.lookup.find_gone.Given as goal

abbrev pub invariant-loop-rest : goal.invariant-loop-rest
invariant-loop-rest l = Fled l.key l.at l.rest l.gone

abbrev pub decreases-loop-rest : goal.decreases-loop-rest
decreases-loop-rest l = length l.rest
