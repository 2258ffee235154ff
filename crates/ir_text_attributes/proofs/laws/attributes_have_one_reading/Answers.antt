use Rattle.ir_text_attributes.proofs.UniqueAttributes.{attr_one}
use Rattle.ir_text_attributes.proofs.laws.attributes_have_one_reading.Goals as goal

pub returns : goal.returns
returns _ o depth bytes rest other y z = attr_one o depth bytes y z rest other
