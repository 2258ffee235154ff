use Rattle.std.proofs.Common.{◌≡◌, length}
use Rattle.mlir_work_script_base.specs.Words.{skip_blanks}
use Rattle.mlir_work_script_base.proofs.words.skip_blanks.Given as goal

abbrev pub invariant-loop-rest : goal.invariant-loop-rest
invariant-loop-rest l = skip_blanks l.rest ≡ skip_blanks l.fn.text

abbrev pub decreases-loop-rest : goal.decreases-loop-rest
decreases-loop-rest l = length l.rest
