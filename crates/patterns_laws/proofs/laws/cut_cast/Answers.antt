use Rattle.patterns_laws.proofs.Recast.{cut_twice, cut_back_signed, cut_back_unsigned}
use Rattle.patterns_laws.proofs.laws.cut_cast.Goals as goal

pub returns-clause-twice : goal.returns-clause-twice
returns-clause-twice c = cut_twice

pub returns-clause-signed : goal.returns-clause-signed
returns-clause-signed c = cut_back_signed

pub returns-clause-unsigned : goal.returns-clause-unsigned
returns-clause-unsigned c = cut_back_unsigned
