use Rattle.std.proofs.Common.{arith}
use Rattle.ir_event.proofs.Zips.{half_whole}
use Rattle.ir_event.proofs.panel.tell_all.Goals as goal

pub returns : goal.returns
returns g c = half_whole _ _ _ _ (omega arith) c.loop-listener.invariant
