use Rattle.ir_types.proofs.ReadingLaws.{signed_back, type_number_back}
use Rattle.ir_types.proofs.reading_laws.numbers_come_back.Goals as goal

pub returns-clause-signed : goal.returns-clause-signed
returns-clause-signed _ w number some h = signed_back w number some h

pub returns-clause-ty : goal.returns-clause-ty
returns-clause-ty _ ty number some h = type_number_back ty number some h
