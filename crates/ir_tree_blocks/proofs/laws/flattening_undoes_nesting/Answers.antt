use Rattle.ir_tree_blocks.proofs.RoundTrip.{back}
use Rattle.ir_tree_blocks.proofs.laws.flattening_undoes_nesting.Goals as goal

pub returns : goal.returns
returns c f t e = back f t e
