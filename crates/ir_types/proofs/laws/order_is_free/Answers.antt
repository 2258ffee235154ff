use Rattle.ir_types.proofs.AcceptedCalls.{moved_entries}
use Rattle.ir_types.proofs.laws.order_is_free.Goals as goal

pub returns : goal.returns
returns _ c xs ys s of_c once moved = moved_entries c xs ys s of_c once moved
