use Rattle.ir_types.proofs.ReadingLaws.{bits_below, literal_is_bits, signed_fits, type_number_fits}
use Rattle.ir_types.proofs.reading_laws.bits_have_a_range.Goals as goal

pub returns-clause-wrapped : goal.returns-clause-wrapped
returns-clause-wrapped _ w number = bits_below w number

pub returns-clause-literal : goal.returns-clause-literal
returns-clause-literal _ ty negative magnitude bits e = literal_is_bits ty negative magnitude bits e

pub returns-clause-signed : goal.returns-clause-signed
returns-clause-signed _ w bits some h = signed_fits w bits some h

pub returns-clause-ty : goal.returns-clause-ty
returns-clause-ty _ ty bits some h = type_number_fits ty bits some h
