use Rattle.dialects_int.proofs.PairLaws.{nothing_left, nothing_left_unsigned}
use Rattle.dialects_int.proofs.laws.remainders_by_one.Goals as goal

pub returns-clause-signed : goal.returns-clause-signed
returns-clause-signed c w a v some ha e = nothing_left w a v some ha e

pub returns-clause-unsigned : goal.returns-clause-unsigned
returns-clause-unsigned c w a = nothing_left_unsigned w a
