use Rattle.ir_verify.proofs.Telling.{shows_diagnostics}
use Rattle.ir_verify.proofs.diagnostics.DiagnosticsAnalysis.report.Goals as goal

pub returns-in-Ok-clause-agreed : goal.returns-in-Ok-clause-agreed
returns-in-Ok-clause-agreed c things m held = shows_diagnostics things m.tree c.facts.result.now.entries c.in-Ok.rows.items (c.facts.ensures.in_order m.tree held.1) c.in-Ok.ensures
