use Rattle.user_patterns_widths.proofs.BitDecides.{bits_decide}
use Rattle.user_patterns_widths.proofs.laws.one_bit_decides.Goals as goal

pub returns : goal.returns
returns c = bits_decide
