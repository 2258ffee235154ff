use Rattle.constants.proofs.Reporting.{shows_constants}
use Rattle.constants.proofs.constants.ConstantsAnalysis.report.Goals as goal

pub returns-in-Ok-clause-agreed : goal.returns-in-Ok-clause-agreed
returns-in-Ok-clause-agreed c things m held =
    shows_constants things c.args.self.now.table c.in-Ok.rows.items m.tree c.in-Ok.ensures.ordered c.in-Ok.ensures.rows held.1.0 held.1.1
