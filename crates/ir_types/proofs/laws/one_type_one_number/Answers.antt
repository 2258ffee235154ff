use Rattle.ir_types.proofs.CallNumbers.{same_types, same_type_terms}
use Rattle.ir_types.proofs.laws.one_type_one_number.Goals as goal

pub returns-clause-node : goal.returns-clause-node
returns-clause-node _ a b c d e s g h = same_types c d e a b s g h

pub returns-clause-meaning : goal.returns-clause-meaning
returns-clause-meaning _ a b c d e s of_c of_d g h = same_type_terms c d e a b s of_c of_d g h
