use Rattle.ir_event.specs.Modules.{module_in}
use Rattle.constants.proofs.Reporting.{shows_constants_about}
use Rattle.constants.proofs.constants.ConstantsAnalysis.report_about.Goals as goal

pub returns-in-Ok-clause-agreed : goal.returns-in-Ok-clause-agreed
returns-in-Ok-clause-agreed c held =
    shows_constants_about c.args._world.now.ctx c.args.subject.now c.args.self.now.table c.in-Ok.rows.items (module_in c.args._world.now).tree c.in-Ok.ensures held.1.0 held.1.1
