use Rattle.std.proofs.Common.{◌≡◌, length}
use Rattle.mlir_work_script_base.specs.Words.{trim_preceding}
use Rattle.mlir_work_script_base.proofs.words.trim_preceding.Given as goal

abbrev pub invariant-loop-rest : goal.invariant-loop-rest
invariant-loop-rest l = trim_preceding l.rest ≡ trim_preceding l.fn.text

abbrev pub decreases-loop-rest : goal.decreases-loop-rest
decreases-loop-rest l = length l.rest
