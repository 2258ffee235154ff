use Rattle.user_patterns_widths.proofs.BitDecides.{bits_decide}
use Rattle.user_patterns_widths.proofs.PolyLaw.{polynomials_keep}
use Rattle.user_patterns_widths.proofs.PolyForAllWidths.{either_holds}
use Rattle.user_patterns_widths.proofs.laws.check_holds_at_all_widths.Goals as goal

pub returns : goal.returns
returns c = either_holds polynomials_keep bits_decide
