use Rattle.rewriter.proofs.Listening.{resync_ok, resync_does, resync_kept}
use Rattle.rewriter.proofs.bench.Bench.resync.Goals as goal

pub returns-clause-ok : goal.returns-clause-ok
returns-clause-ok g c = rw (← c.self.view_is) (resync_ok g.L.Analysis.meaning c.self.inside.transaction c.world.result.now _ _ c.world.ensures.ctx c.world.ensures.store c.args.kind c.resync.result c.resync.ensures.ok)

pub returns-clause-does : goal.returns-clause-does
returns-clause-does g c = rw (← c.self.view_is) (resync_does g.L.Analysis.meaning c.self.inside.transaction c.world.result.now _ _ c.world.ensures.ctx c.world.ensures.store c.args.kind c.resync.result c.resync.ensures.ok c.resync.ensures.err)

pub returns-clause-kept : goal.returns-clause-kept
returns-clause-kept g c = rw (← c.self.view_is) (resync_kept g.L.Analysis.meaning c.self.inside.transaction c.world.result.now _ _ c.world.ensures.ctx c.world.ensures.store c.args.kind c.resync.result c.resync.ensures.ok c.resync.ensures.err)
