use Rattle.rewriter.proofs.Listening.{detach_does, detach_kept}
use Rattle.rewriter.proofs.bench.Bench.detach.Goals as goal

pub returns-clause-does : goal.returns-clause-does
returns-clause-does g c = rw (← c.self.view_is) (detach_does g.L.Analysis.meaning c.self.inside.transaction _ _ c.args.kind c.detach.result c.detach.ensures.ok c.detach.ensures.err c.detach.ensures.missing)

pub returns-clause-kept : goal.returns-clause-kept
returns-clause-kept g c = rw (← c.self.view_is) (detach_kept g.L.Analysis.meaning c.self.inside.transaction _ _ c.args.kind c.detach.result c.detach.ensures.ok c.detach.ensures.err)
