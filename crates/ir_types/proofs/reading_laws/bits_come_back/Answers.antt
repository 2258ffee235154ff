use Rattle.ir_types.proofs.ReadingLaws.{bits_back, unsigned_back, type_bits_back}
use Rattle.ir_types.proofs.reading_laws.bits_come_back.Goals as goal

pub returns-clause-signed : goal.returns-clause-signed
returns-clause-signed _ w bits some h = bits_back w bits some h

pub returns-clause-unsigned : goal.returns-clause-unsigned
returns-clause-unsigned _ w bits h = unsigned_back w bits h

pub returns-clause-ty : goal.returns-clause-ty
returns-clause-ty _ ty bits some h = type_bits_back ty bits some h
