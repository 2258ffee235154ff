use Rattle.ir_text_modules.proofs.ReadTypes.{read_fits, read_function_fits}
use Rattle.ir_text_modules.proofs.laws.types_that_are_read_are_written.Goals as goal

pub returns-clause-ty : goal.returns-clause-ty
returns-clause-ty c = read_fits

pub returns-clause-function : goal.returns-clause-function
returns-clause-function c = read_function_fits
