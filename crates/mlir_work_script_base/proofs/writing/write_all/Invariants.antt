use Rattle.std.proofs.Common.{◌≡◌, ◌++◌, List, ℕ, map, drop}
use Rattle.mlir_work_script_base.specs.Writes.{Grows, joined}
use Rattle.mlir_work_script_base.proofs.writing.write_all.Given as goal

abbrev pub invariant-loop-chunk : goal.invariant-loop-chunk
invariant-loop-chunk g l = record {
  preceding : List ℕ;
  is : joined (map (λ x. x.now) l.chunks) ≡ preceding ++ joined (map (λ x. x.now) (drop l.chunk-index l.chunks));
  wrote : Grows (g.W.Sink.stream l.initial.writer) (g.W.Sink.stream l.writer) preceding;
}
