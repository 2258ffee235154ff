use Rattle.patterns_laws.proofs.Recast.{signed_twice, unsigned_twice, signed_of_unsigned}
use Rattle.patterns_laws.proofs.laws.extend_extension.Goals as goal

pub returns-clause-signed : goal.returns-clause-signed
returns-clause-signed c = signed_twice

pub returns-clause-unsigned : goal.returns-clause-unsigned
returns-clause-unsigned c = unsigned_twice

pub returns-clause-signed_of_unsigned : goal.returns-clause-signed_of_unsigned
returns-clause-signed_of_unsigned c = signed_of_unsigned
