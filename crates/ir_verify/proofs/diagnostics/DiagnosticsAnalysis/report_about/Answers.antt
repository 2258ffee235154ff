use Rattle.ir_verify_base.specs.events.Modules.{module_in}
use Rattle.ir_verify.proofs.Telling.{shows_diagnostics_about}
use Rattle.ir_verify.proofs.diagnostics.DiagnosticsAnalysis.report_about.Goals as goal

pub returns-in-Ok-clause-agreed : goal.returns-in-Ok-clause-agreed
returns-in-Ok-clause-agreed c held =
    shows_diagnostics_about c.args._world.now.ctx c.args.subject.now (module_in c.args._world.now).tree c.facts.result.now c.in-Ok.rows.items c.facts.ensures.ordered (c.facts.ensures.in_order (module_in c.args._world.now).tree held.1) c.in-Ok.ensures
