use Rattle.ir_types.proofs.ReadingLaws.{same_modulo, literals_same}
use Rattle.ir_types.proofs.reading_laws.same_bits.Goals as goal

pub returns-clause-number : goal.returns-clause-number
returns-clause-number _ w a b = same_modulo w a b

pub returns-clause-literal : goal.returns-clause-literal
returns-clause-literal _ ty n k a b h g = literals_same ty n k a b h g
