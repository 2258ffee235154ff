use Rattle.std.proofs.Common.{length}
use Rattle.mlir_work_script_base.proofs.Spanning.{Passed}
use Rattle.mlir_work_script_base.proofs.input.split.Given as goal

abbrev pub invariant-lines : goal.invariant-lines
invariant-lines l = Passed l.input l.rest

abbrev pub decreases-lines : goal.decreases-lines
decreases-lines l = length l.rest
