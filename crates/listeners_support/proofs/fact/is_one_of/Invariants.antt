use Rattle.std.proofs.Common.{◌≡◌, length}
use Rattle.listeners_support.specs.Near.{somes}
use Rattle.listeners_support.specs.Facts.{is_one_of}
use Rattle.listeners_support.proofs.fact.is_one_of.Given as goal

abbrev pub invariant-loop-rest : goal.invariant-loop-rest
invariant-loop-rest l = is_one_of l.op (somes l.rest) ≡ is_one_of l.op (somes l.fn.ops)

abbrev pub decreases-loop-rest : goal.decreases-loop-rest
decreases-loop-rest l = length l.rest
