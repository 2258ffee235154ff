use Rattle.ir_event.proofs.Nodes.{known_node, shown_node}
use Rattle.ir_event.proofs.laws.nodes_are_of_the_context.Goals as goal

pub returns-clause-known : goal.returns-clause-known
returns-clause-known _ w x n is = known_node w x n is

pub returns-clause-shown : goal.returns-clause-shown
returns-clause-shown _ w x n is = shown_node w x n is
