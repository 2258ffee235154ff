use Rattle.ir_text_operations.proofs.OpLaws.{ops_read, ops_rendered}
use Rattle.ir_text_operations.proofs.laws.texts_are_read_as_rendered.Goals as goal

pub returns-clause-found : goal.returns-clause-found
returns-clause-found _ = ops_read

pub returns-clause-only : goal.returns-clause-only
returns-clause-only _ = ops_rendered
