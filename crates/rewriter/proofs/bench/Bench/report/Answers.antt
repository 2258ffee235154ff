use Rattle.rewriter.specs.Held.{module_held, open_marks}
use Rattle.rewriter.proofs.Listening.{reported_known, reported_goes}
use Rattle.rewriter.proofs.bench.Bench.report.Goals as goal

pub returns-clause-known : goal.returns-clause-known
returns-clause-known g c = rw (← c.self.view_is) (reported_known g.L.Analysis.meaning (module_held c.self.inside.transaction) (open_marks c.self.inside.transaction) c.args.kind c.self.inside.panel (λ rows. rows.items) c.self.inside.transaction.ctx c.report.result c.report.ensures.missing (λ b l a. c.report.ensures.agreed b _ _ l a) c.report.ensures.stale)

pub returns-clause-goes : goal.returns-clause-goes
returns-clause-goes g c = rw (← c.self.view_is) (reported_goes g.L.Analysis.meaning (module_held c.self.inside.transaction) (open_marks c.self.inside.transaction) c.args.kind c.self.inside.panel (λ rows. rows.items) c.self.inside.transaction.ctx c.report.result c.report.ensures.missing (λ b l a. c.report.ensures.agreed b _ _ l a) c.report.ensures.stale)
