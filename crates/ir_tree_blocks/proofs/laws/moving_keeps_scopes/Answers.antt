use Rattle.ir_tree_blocks.proofs.Shifts.{shifted_scopes, shifted_lexical}
use Rattle.ir_tree_blocks.proofs.laws.moving_keeps_scopes.Goals as goal

pub returns-clause-scopes : goal.returns-clause-scopes
returns-clause-scopes c x place t p s = shifted_scopes x place t p s

pub returns-clause-lexical : goal.returns-clause-lexical
returns-clause-lexical c x place t p l = shifted_lexical x place t p l
