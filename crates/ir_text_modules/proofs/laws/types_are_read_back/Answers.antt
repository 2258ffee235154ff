use Rattle.ir_text_modules.proofs.Types.{type_again}
use Rattle.ir_text_modules.proofs.laws.types_are_read_back.Goals as goal

pub returns : goal.returns
returns c o depth t rest small fits_in s = type_again o depth small t rest fits_in.0 fits_in.1 s
