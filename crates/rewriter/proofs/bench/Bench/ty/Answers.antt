use Rattle.std.proofs.Common.{subst, []}
use Rattle.ir_event.specs.types.Sound.{Holds}
use Rattle.rewriter.proofs.Rolled.{grown_settled}
use Rattle.rewriter.proofs.Notified.{notified_grown}
use Rattle.rewriter.proofs.bench.Bench.ty.Goals as goal

pub returns-clause-led : goal.returns-clause-led
returns-clause-led g c = rw (← c.self.view_is) ([], notified_grown g.L.Analysis.meaning _ _ _ (subst Holds c.world.ensures.ctx c.sound.ensures.holds) (subst Holds c.world-2.ensures.ctx c.sound-2.ensures.holds) c.ty-id.ensures.grows)

pub invariant_of-self : goal.invariant_of-self
invariant_of-self g c = grown_settled _ _ c.ty-id.ensures.grows c.self.invariant
