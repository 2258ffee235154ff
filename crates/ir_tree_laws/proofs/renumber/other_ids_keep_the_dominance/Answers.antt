use Rattle.ir_tree_laws.proofs.RenumberedSame.{distinct}
use Rattle.ir_tree_laws.proofs.RenumberedDominance.{visible_with, operands_visible_with}
use Rattle.ir_tree_laws.proofs.RenumberedForm.{wellformed_with}
use Rattle.ir_tree_laws.proofs.renumber.other_ids_keep_the_dominance.Goals as goal

pub returns-clause-dominance : goal.returns-clause-dominance
returns-clause-dominance c isolated f t x v k = visible_with f isolated t k x v

pub returns-clause-operands : goal.returns-clause-operands
returns-clause-operands c isolated f t k = operands_visible_with f isolated t k

pub returns-clause-wellformed : goal.returns-clause-wellformed
returns-clause-wellformed c isolated f t k w = wellformed_with isolated f t k w

pub returns-clause-distinct : goal.returns-clause-distinct
returns-clause-distinct c f t k d = distinct f t k d
