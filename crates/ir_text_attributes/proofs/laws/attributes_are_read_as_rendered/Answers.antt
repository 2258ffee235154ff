use Rattle.ir_text_attributes.proofs.AttrLaws.{attr_read, attr_rendered}
use Rattle.ir_text_attributes.proofs.laws.attributes_are_read_as_rendered.Goals as goal

pub returns-clause-found : goal.returns-clause-found
returns-clause-found _ = attr_read

pub returns-clause-only : goal.returns-clause-only
returns-clause-only _ = attr_rendered
