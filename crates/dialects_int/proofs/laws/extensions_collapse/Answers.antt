use Rattle.dialects_int.proofs.CastLaws.{extended_twice, zeros_twice, sign_of_zeros}
use Rattle.dialects_int.proofs.laws.extensions_collapse.Goals as goal

pub returns-clause-signed : goal.returns-clause-signed
returns-clause-signed c u v w a some h ha = extended_twice u v w a some h ha

pub returns-clause-unsigned : goal.returns-clause-unsigned
returns-clause-unsigned c u v w a h ha = zeros_twice u v w a h ha

pub returns-clause-signed_of_unsigned : goal.returns-clause-signed_of_unsigned
returns-clause-signed_of_unsigned c u v w a h ha = sign_of_zeros u v w a h ha
