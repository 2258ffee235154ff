use Rattle.ir_store.proofs.Called.{rows_in, keys_in}
use Rattle.ir_store.proofs.Taking.{heads_of}
use Rattle.ir_store.proofs.store.Store.operations.Goals as goal

pub push_op-requires-clause-slots : goal.push_op-requires-clause-slots
push_op-requires-clause-slots c = let a = c.self.inside in heads_of (rows_in a) (keys_in a) a.sibs a.root a.represented.0 c.self.invariant.right
