use Rattle.std.proofs.Common.{rules}
use Rattle.ir_text.specs.AttrText.{number_text}
use Rattle.mlir_work_session_base.proofs.rows.write_signed.Goals as goal

pub returns-then-truth : goal.returns-then-truth
unfolding number_text
returns-then-truth c = search rules

pub returns : goal.returns
unfolding number_text
returns c = search rules
