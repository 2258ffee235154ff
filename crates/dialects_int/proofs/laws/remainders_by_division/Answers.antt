use Rattle.dialects_int.proofs.CastLaws.{rest_of_quotient}
use Rattle.dialects_int.proofs.Remainders.{rest_of_signed_quotient}
use Rattle.dialects_int.proofs.laws.remainders_by_division.Goals as goal

pub returns-clause-signed : goal.returns-clause-signed
returns-clause-signed c w a b q some ha hb e = rest_of_signed_quotient w a b q some ha hb e

pub returns-clause-unsigned : goal.returns-clause-unsigned
returns-clause-unsigned c w a b q ha e = rest_of_quotient w a b q ha e
