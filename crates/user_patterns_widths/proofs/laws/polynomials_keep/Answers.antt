use Rattle.user_patterns_widths.proofs.PolyLaw.{polynomials_keep}
use Rattle.user_patterns_widths.proofs.laws.polynomials_keep.Goals as goal

pub returns : goal.returns
returns c = polynomials_keep
