use Rattle.listeners.proofs.Sets.{unreached_out, unreached_in}
use Rattle.listeners.proofs.laws.the_others_are_the_least_set.Goals as goal

pub returns-clause-out : goal.returns-clause-out
returns-clause-out c t x h = unreached_out t x h

pub returns-clause-in_it : goal.returns-clause-in_it
returns-clause-in_it c t x e h = unreached_in t x e h
