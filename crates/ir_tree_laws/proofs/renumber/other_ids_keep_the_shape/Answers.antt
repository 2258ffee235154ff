use Rattle.ir_tree_laws.proofs.RenumberedSame.{ids_with, depth_with, counts_with}
use Rattle.ir_tree_laws.proofs.renumber.other_ids_keep_the_shape.Goals as goal

pub returns-clause-ids : goal.returns-clause-ids
returns-clause-ids c f t = ids_with f t

pub returns-clause-depth : goal.returns-clause-depth
returns-clause-depth c f t = depth_with f t

pub returns-clause-counts : goal.returns-clause-counts
returns-clause-counts c f t = counts_with f t
