use Rattle.ir_types.proofs.CallNumbers.{place_in}
use Rattle.ir_types.proofs.Terms.{type_stays, type_node_stays}
use Rattle.ir_types.proofs.laws.types_stay.Goals as goal

pub returns-clause-number : goal.returns-clause-number
returns-clause-number _ c d g n h = type_stays c d n g h

pub returns-clause-place : goal.returns-clause-place
returns-clause-place _ c d g n x at = place_in c.types d.types n x g.types at

pub returns-clause-node : goal.returns-clause-node
returns-clause-node _ c d g node h = type_node_stays c d node g h
