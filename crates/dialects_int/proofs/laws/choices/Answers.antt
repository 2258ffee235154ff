use Rattle.dialects_int.proofs.CastLaws.{same_choice, own_choice, other_choice}
use Rattle.dialects_int.proofs.laws.choices.Goals as goal

pub returns-clause-same : goal.returns-clause-same
returns-clause-same c k a = same_choice k a

pub returns-clause-itself : goal.returns-clause-itself
returns-clause-itself c k h = own_choice k h

pub returns-clause-complement : goal.returns-clause-complement
returns-clause-complement c k a b h = other_choice k a b h
