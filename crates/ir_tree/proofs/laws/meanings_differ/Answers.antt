use Rattle.ir_tree.proofs.Meanings.{apart}
use Rattle.ir_tree.proofs.laws.meanings_differ.Goals as goal

pub returns : goal.returns
returns _ c t u s r q e = apart c t u s r q e
