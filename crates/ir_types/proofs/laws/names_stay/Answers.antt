use Rattle.ir_types.proofs.CallNumbers.{place_in}
use Rattle.ir_types.proofs.Terms.{name_stays}
use Rattle.ir_types.proofs.laws.names_stay.Goals as goal

pub returns-clause-number : goal.returns-clause-number
returns-clause-number _ c d g n h = name_stays c d n g h

pub returns-clause-place : goal.returns-clause-place
returns-clause-place _ c d g n x at = place_in c.names d.names n x g.names at
