use Rattle.std.proofs.Common.{subst, []}
use Rattle.ir_event.specs.types.Sound.{Holds}
use Rattle.rewriter.proofs.Rolled.{grown_settled}
use Rattle.rewriter.proofs.Notified.{notified_grown}
use Rattle.rewriter.proofs.bench.Bench.read_op.Goals as goal

pub returns-clause-led : goal.returns-clause-led
returns-clause-led g c = rw (← c.self.view_is) ([], notified_grown g.L.Analysis.meaning _ _ _ (subst Holds c.world.ensures.ctx c.sound.ensures.holds) (subst Holds c.world-2.ensures.ctx c.sound-2.ensures.holds) c.read_op-read.ensures.grown)

pub returns-clause-read : goal.returns-clause-read
returns-clause-read g c = rw (← c.self.view_is) c.read_op-read.ensures.read

pub returns-clause-refused : goal.returns-clause-refused
returns-clause-refused g c = rw (← c.self.view_is) c.read_op-read.ensures.refused

pub invariant_of-self : goal.invariant_of-self
invariant_of-self g c = grown_settled _ _ c.read_op-read.ensures.grown c.self.invariant
