use Rattle.ir_types.proofs.CallNumbers.{place_in}
use Rattle.ir_types.proofs.Terms.{attr_stays, attr_node_stays}
use Rattle.ir_types.proofs.laws.attrs_stay.Goals as goal

pub returns-clause-number : goal.returns-clause-number
returns-clause-number _ c d holds g n h = attr_stays c d n holds g h

pub returns-clause-place : goal.returns-clause-place
returns-clause-place _ c d g n x at = place_in c.attrs d.attrs n x g.attrs at

pub returns-clause-node : goal.returns-clause-node
returns-clause-node _ c d holds g node h = attr_node_stays c d node holds g h
