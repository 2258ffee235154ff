use Rattle.conversion_base.proofs.Gone.{no_cast_is_left}
use Rattle.conversion_base.proofs.laws.no_cast_is_left.Goals as goal

pub returns : goal.returns
returns c = no_cast_is_left
