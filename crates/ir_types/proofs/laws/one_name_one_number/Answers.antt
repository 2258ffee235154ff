use Rattle.ir_types.proofs.CallNumbers.{same_names}
use Rattle.ir_types.proofs.laws.one_name_one_number.Goals as goal

pub returns : goal.returns
returns _ a b c d e s g h = same_names c d e a b s g h
