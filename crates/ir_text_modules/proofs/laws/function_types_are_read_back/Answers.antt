use Rattle.ir_text_modules.proofs.Types.{function_type_again}
use Rattle.ir_text_modules.proofs.laws.function_types_are_read_back.Goals as goal

pub returns : goal.returns
returns c = function_type_again
