use Rattle.listeners.proofs.Reported.{shows_unreached}
use Rattle.listeners.proofs.unreached.UnreachedAnalysis.report.Goals as goal

pub returns-in-Ok-clause-agreed : goal.returns-in-Ok-clause-agreed
returns-in-Ok-clause-agreed c things m held =
    shows_unreached things m.tree c.args.self.now.roles c.in-Ok.rows.items c.in-Ok.ensures.ordered held.1 held.2 c.in-Ok.ensures.rows.0 c.in-Ok.ensures.rows.1 c.in-Ok.ensures.rows.2
