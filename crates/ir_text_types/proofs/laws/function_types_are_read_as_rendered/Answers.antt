use Rattle.ir_text_types.proofs.TypeLaws.{function_type_read, function_type_rendered}
use Rattle.ir_text_types.proofs.laws.function_types_are_read_as_rendered.Goals as goal

pub returns-clause-found : goal.returns-clause-found
returns-clause-found _ = function_type_read

pub returns-clause-only : goal.returns-clause-only
returns-clause-only _ = function_type_rendered
