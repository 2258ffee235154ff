use Rattle.ir_tree_laws.proofs.Neighbours.{list_next_to, parent_next_to, next_next_to, prev_next_to, before_next_to}
use Rattle.ir_tree_laws.proofs.laws.operations_next_to_are_those_of_the_path.Goals as goal

pub returns-clause-list : goal.returns-clause-list
returns-clause-list g _ t d x s a q e p = list_next_to t d x s a q e p

pub returns-clause-parent : goal.returns-clause-parent
returns-clause-parent g _ t d x s a q e p = parent_next_to t d x s a q e p

pub returns-clause-next : goal.returns-clause-next
returns-clause-next g _ t d x s a q e p = next_next_to t d x s a q e p

pub returns-clause-prev : goal.returns-clause-prev
returns-clause-prev g _ t d x s a q e p = prev_next_to t d x s a q e p

pub returns-clause-before : goal.returns-clause-before
returns-clause-before g _ t d x s a q e p y = before_next_to t d x s a q e p y
