use Rattle.ir_types.proofs.Terms.{attr_term_is}
use Rattle.ir_types.proofs.laws.attr_of_node.Goals as goal

pub returns : goal.returns
returns _ = attr_term_is
