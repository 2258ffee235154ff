use Rattle.std.proofs.Common.{ap}
use Rattle.ir_event.specs.Modules.{module_in}
use Rattle.effects.specs.Counts.{counts_in}
use Rattle.effects.specs.Walks.{row_at}
use Rattle.effects.proofs.Judging.{shows_dead_about}
use Rattle.effects.proofs.dead.DeadAnalysis.report_about.Goals as goal

pub returns-in-Ok-clause-agreed : goal.returns-in-Ok-clause-agreed
returns-in-Ok-clause-agreed c held =
    shows_dead_about c.args._world.now.ctx c.args.subject.now (row_at c.args.self.now.effects.rows) (row_at c.rows.result.now) (counts_in c.args.self.now.counts) c.in-Ok.rows.items (module_in c.args._world.now).tree (ap row_at c.rows.ensures) c.in-Ok.ensures held.1.0.1.0 held.1.0.1.1 held.1.1
