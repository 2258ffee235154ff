use Rattle.std.proofs.Common.{◌≡◌, ◌∙◌, sym, [], rules}
use Rattle.ir_event.proofs.Abouts.{shows_none}
use Rattle.ir_event.specs.Modules.{module_in}
use Rattle.listeners_symbols.proofs.Abouts.{no_symbols}
use Rattle.listeners_symbols.proofs.Reported.{shows_symbols}
use Rattle.listeners_symbols.proofs.symbols.SymbolsAnalysis.report_about.Goals as goal

pub returns-then-not-may_tell-clause-agreed : goal.returns-then-not-may_tell-clause-agreed
returns-then-not-may_tell-clause-agreed c held =
    let empty : c.new.result.items ≡ [] = search rules in
    shows_none c.args._world.now.ctx c.new.result.items _ empty
    (no_symbols c.args.subject.now held.1.from (module_in c.args._world.now).tree c.args.self.now.definers c.args.self.now.roles c.ordered.ensures.all held.1.keeps (sym c.may_tell.ensures ∙ c.if-not-may_tell.true))

pub returns-clause-agreed : goal.returns-clause-agreed
returns-clause-agreed c held =
    c.keep_rows_about.ensures c.args._world.now.ctx _
    (shows_symbols c.args._world.now.ctx (module_in c.args._world.now).tree c.args.self.now.definers c.args.self.now.roles c.in-Ok.rows.items c.in-Ok.ensures.ordered held.1 c.in-Ok.ensures.rows)
