use Rattle.mlir_work_script_base.proofs.Cutting.{lines_step}
use Rattle.mlir_work_script_base.proofs.lines.split_line.Goals as goal

pub returns-clause-lines : goal.returns-clause-lines
returns-clause-lines c = λ h. (rw (c.cut_at.ensures.before, c.cut_at.ensures.after) (lines_step c.args.text.now h))
