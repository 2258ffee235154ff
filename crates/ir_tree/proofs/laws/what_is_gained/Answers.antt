use Rattle.ir_tree.proofs.Gained.{gained_ids, gained_distinct}
use Rattle.ir_tree.proofs.laws.what_is_gained.Goals as goal

pub returns-clause-ids : goal.returns-clause-ids
returns-clause-ids _ place o y t a b = gained_ids place o y t a b

pub returns-clause-distinct : goal.returns-clause-distinct
returns-clause-distinct _ place o t e d f = gained_distinct place o e t d f
