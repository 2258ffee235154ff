use Rattle.std.proofs.Common.{refl}
use Rattle.width_claims.proofs.Branching.{walked_all}
use Rattle.width_claims.proofs.bit_serial.BitSerialMachine.transitions.Goals as goal

pub returns : goal.returns
returns c = walked_all c.args.self.now.steps.now _ _ _ _ _ c.in_ok-complete.complete refl refl refl refl c.new-bits.ensures.items c.requires c.in_ok-complete.ensures
