use Rattle.ir_types.proofs.KeptOrder.{kept_known}
use Rattle.ir_types.proofs.laws.known_order.Goals as goal

pub returns : goal.returns
returns _ = kept_known
