use Rattle.conversion_base.proofs.AllLegal.{full_is_legal}
use Rattle.conversion_base.proofs.laws.full_conversions_are_legal.Goals as goal

pub returns : goal.returns
returns c = full_is_legal
