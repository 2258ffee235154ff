use Rattle.ir_tree_laws.proofs.DominatedBy.{visible_of_found, root_dominated_by_none, operands_visible_each}
use Rattle.ir_tree_laws.proofs.Neighbours.{dominated_by_next_to}
use Rattle.ir_tree_laws.proofs.laws.dominance_is_by_cases.Goals as goal

pub returns-clause-inner : goal.returns-clause-inner
returns-clause-inner g _ isolated t d x s a q v e p = visible_of_found isolated t d x s a q v e p

pub returns-clause-root : goal.returns-clause-root
returns-clause-root g _ isolated t v d = root_dominated_by_none isolated t d v

pub returns-clause-operands : goal.returns-clause-operands
returns-clause-operands g _ isolated t d = operands_visible_each isolated t d

pub returns-clause-by_place : goal.returns-clause-by_place
returns-clause-by_place g _ isolated t d x place p v e f = dominated_by_next_to isolated t d x place p v e f
