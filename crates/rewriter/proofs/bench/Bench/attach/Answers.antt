use Rattle.rewriter.proofs.Listening.{attach_ok, attach_does, attach_kept}
use Rattle.rewriter.proofs.bench.Bench.attach.Goals as goal

pub returns-clause-ok : goal.returns-clause-ok
returns-clause-ok g c = rw (← c.self.view_is) (attach_ok g.L.Analysis.meaning c.self.inside.transaction c.world.result.now _ _ c.world.ensures.ctx c.world.ensures.store _ c.attach.result c.attach.ensures.ok c.attach.ensures.err)

pub returns-clause-does : goal.returns-clause-does
returns-clause-does g c = rw (← c.self.view_is) (attach_does g.L.Analysis.meaning c.self.inside.transaction c.world.result.now _ _ c.world.ensures.ctx c.world.ensures.store _ c.attach.result c.attach.ensures.ok c.attach.ensures.err c.attach.ensures.back)

pub returns-clause-kept : goal.returns-clause-kept
returns-clause-kept g c = rw (← c.self.view_is) (attach_kept g.L.Analysis.meaning c.self.inside.transaction c.world.result.now _ _ c.world.ensures.ctx c.world.ensures.store _ c.attach.result c.attach.ensures.ok c.attach.ensures.err)
