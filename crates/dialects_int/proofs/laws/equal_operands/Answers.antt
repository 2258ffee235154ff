use Rattle.dialects_int.proofs.PairLaws.{itself_kept, itself_gone, itself_cleared}
use Rattle.dialects_int.proofs.laws.equal_operands.Goals as goal

pub returns-clause-kept : goal.returns-clause-kept
returns-clause-kept c o w a h = itself_kept o w a h

pub returns-clause-difference : goal.returns-clause-difference
returns-clause-difference c w a = itself_gone w a

pub returns-clause-exclusive : goal.returns-clause-exclusive
returns-clause-exclusive c w a = itself_cleared w a
