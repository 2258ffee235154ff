use Rattle.std.proofs.Common.{◌≡◌, length}
use Rattle.mlir_work_script_base.specs.Lines.{lines_of}
use Rattle.mlir_work_session.specs.PrintsAlone.{all_print}
use Rattle.mlir_work_session.proofs.prints.only_prints.Given as goal

abbrev pub invariant-loop-text : goal.invariant-loop-text
invariant-loop-text g l = all_print (lines_of l.script) ≡ all_print (lines_of l.text)

abbrev pub decreases-loop-text : goal.decreases-loop-text
decreases-loop-text g l = length l.text
