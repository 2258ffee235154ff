use Rattle.ir_text_modules.proofs.Texts.{op_appended}
use Rattle.ir_text_modules.proofs.module_laws.operations_are_appended.Goals as goal

pub returns : goal.returns
returns c margin t o = op_appended margin t o
