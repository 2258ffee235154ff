use Rattle.ir_types.proofs.Terms.{type_term_is}
use Rattle.ir_types.proofs.laws.type_of_node.Goals as goal

pub returns : goal.returns
returns _ = type_term_is
