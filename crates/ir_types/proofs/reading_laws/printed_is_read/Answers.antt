use Rattle.ir_types.proofs.ReadingLaws.{number_is, printed_is_literal}
use Rattle.ir_types.proofs.reading_laws.printed_is_read.Goals as goal

pub returns-clause-number : goal.returns-clause-number
returns-clause-number _ number = number_is number

pub returns-clause-bits : goal.returns-clause-bits
returns-clause-bits _ ty bits some h = printed_is_literal ty bits some h
