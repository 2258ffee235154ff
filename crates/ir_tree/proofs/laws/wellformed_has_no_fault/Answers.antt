use Rattle.ir_tree.proofs.Faults.{fault_none}
use Rattle.ir_tree.proofs.laws.wellformed_has_no_fault.Goals as goal

pub returns : goal.returns
returns _ isolated t = fault_none isolated t
