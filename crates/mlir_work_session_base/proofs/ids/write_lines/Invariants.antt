use Rattle.std.proofs.Common.{◌≡◌, ◌++◌, length}
use Rattle.mlir_work_script_base.specs.Lines.{lines_of}
use Rattle.mlir_work_session_base.specs.IdsText.{with_ids}
use Rattle.mlir_work_session_base.proofs.ids.write_lines.Given as goal

abbrev pub invariant-loop-rest : goal.invariant-loop-rest
invariant-loop-rest l = l.out.items ++ with_ids (lines_of l.rest) l.left ≡ l.fn.out.items ++ with_ids (lines_of l.fn.text) l.fn.ids

abbrev pub decreases-loop-rest : goal.decreases-loop-rest
decreases-loop-rest l = length l.rest
