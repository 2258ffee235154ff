use Rattle.std.proofs.Common.{◌≡◌, length}
use Rattle.mlir_work_session.specs.PrintsAlone.{kinds_apart}
use Rattle.mlir_work_session.proofs.prints.kinds_differ.Given as goal

abbrev pub invariant-loop-rest : goal.invariant-loop-rest
invariant-loop-rest g l = kinds_apart g.L.Analysis.meaning l.listeners ≡ kinds_apart g.L.Analysis.meaning l.rest

abbrev pub decreases-loop-rest : goal.decreases-loop-rest
decreases-loop-rest g l = length l.rest
