use Rattle.ir_text_operations.proofs.OpLaws.{op_read, op_rendered}
use Rattle.ir_text_operations.proofs.laws.operations_are_read_as_rendered.Goals as goal

pub returns-clause-found : goal.returns-clause-found
returns-clause-found _ = op_read

pub returns-clause-only : goal.returns-clause-only
returns-clause-only _ = op_rendered
