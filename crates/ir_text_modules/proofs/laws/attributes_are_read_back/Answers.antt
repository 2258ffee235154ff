use Rattle.ir_text_modules.proofs.Attributes.{attr_again}
use Rattle.ir_text_modules.proofs.laws.attributes_are_read_back.Goals as goal

pub returns : goal.returns
returns c o depth a rest small fits_in s = attr_again o depth small a rest fits_in s
