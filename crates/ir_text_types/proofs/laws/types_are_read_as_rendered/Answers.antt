use Rattle.ir_text_types.proofs.TypeLaws.{type_read, type_rendered}
use Rattle.ir_text_types.proofs.laws.types_are_read_as_rendered.Goals as goal

pub returns-clause-found : goal.returns-clause-found
returns-clause-found _ = type_read

pub returns-clause-only : goal.returns-clause-only
returns-clause-only _ = type_rendered
