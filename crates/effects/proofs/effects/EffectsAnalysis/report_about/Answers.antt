use Rattle.ir_event.specs.Modules.{module_in}
use Rattle.effects.specs.Walks.{row_at}
use Rattle.effects.proofs.Reporting.{shows_effects_about}
use Rattle.effects.proofs.effects.EffectsAnalysis.report_about.Goals as goal

pub returns-in-Ok-clause-agreed : goal.returns-in-Ok-clause-agreed
returns-in-Ok-clause-agreed c held =
    shows_effects_about c.args._world.now.ctx c.args.subject.now (row_at c.args.self.now.rows) c.in-Ok.rows.items (module_in c.args._world.now).tree c.in-Ok.ensures held.1.0 held.1.1
