use Rattle.std.proofs.Common.{◌≡◌, ◌∙◌, sym, [], rules}
use Rattle.ir_event.specs.Modules.{module_in}
use Rattle.ir_event.proofs.Abouts.{shows_none}
use Rattle.listeners.proofs.Quiet.{no_unreached}
use Rattle.listeners.proofs.Reported.{shows_unreached}
use Rattle.listeners.proofs.unreached.UnreachedAnalysis.report_about.Goals as goal

pub returns-then-not-may_hide-clause-agreed : goal.returns-then-not-may_hide-clause-agreed
returns-then-not-may_hide-clause-agreed c held =
    let empty : c.new.result.items ≡ [] = search rules in
    shows_none c.args._world.now.ctx c.new.result.items _ empty
    (no_unreached c.args.subject.now held.2.from (module_in c.args._world.now).tree c.args.self.now.roles c.ordered.ensures.all held.2.keeps (sym c.may_hide.ensures ∙ c.if-not-may_hide.true))

pub returns-clause-agreed : goal.returns-clause-agreed
returns-clause-agreed c held =
    c.keep_rows_about.ensures c.args._world.now.ctx _
    (shows_unreached c.args._world.now.ctx (module_in c.args._world.now).tree c.args.self.now.roles c.in-Ok.rows.items c.in-Ok.ensures.ordered held.1 held.2 c.in-Ok.ensures.rows.0 c.in-Ok.ensures.rows.1 c.in-Ok.ensures.rows.2)
