use Rattle.std.proofs.Common.{◌≡◌, ◌++◌, List, ℕ, length}
use Rattle.mlir_work_script_base.specs.Writes.{Grows}
use Rattle.mlir_work_script_base.proofs.writing.write.Given as goal

-- the written bytes, followed by the remaining ones, are all bytes
abbrev pub invariant-loop-rest : goal.invariant-loop-rest
invariant-loop-rest g l = record {
  preceding : List ℕ;
  is : l.bytes ≡ preceding ++ l.rest;
  wrote : Grows (g.W.Sink.stream l.initial.writer) (g.W.Sink.stream l.writer) preceding;
}

abbrev pub decreases-loop-rest : goal.decreases-loop-rest
decreases-loop-rest g l = length l.rest
