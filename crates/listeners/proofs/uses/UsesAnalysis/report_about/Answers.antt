use Rattle.listeners.proofs.Following.{rows_show_about}
use Rattle.listeners.proofs.uses.UsesAnalysis.report_about.Goals as goal

pub returns-in-Ok-clause-agreed : goal.returns-in-Ok-clause-agreed
returns-in-Ok-clause-agreed c held = rows_show_about c.args.world.now.ctx c.args.subject.now c.args.world.now.store.module_of.tree c.in-Ok.rows.items c.in-Ok.ensures
