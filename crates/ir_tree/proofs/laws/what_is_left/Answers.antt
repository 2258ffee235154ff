use Rattle.ir_tree.proofs.Left.{left_ids, left_distinct, gone}
use Rattle.ir_tree.proofs.laws.what_is_left.Goals as goal

pub returns-clause-ids : goal.returns-clause-ids
returns-clause-ids _ x y t h = left_ids x y t h

pub returns-clause-gone : goal.returns-clause-gone
returns-clause-gone _ x t h = gone x t h

pub returns-clause-distinct : goal.returns-clause-distinct
returns-clause-distinct _ x t d = left_distinct x t d
