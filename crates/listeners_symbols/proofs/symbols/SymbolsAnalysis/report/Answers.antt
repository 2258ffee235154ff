use Rattle.listeners_symbols.proofs.Reported.{shows_symbols}
use Rattle.listeners_symbols.proofs.symbols.SymbolsAnalysis.report.Goals as goal

pub returns-in-Ok-clause-agreed : goal.returns-in-Ok-clause-agreed
returns-in-Ok-clause-agreed c things m held = shows_symbols things m.tree c.args.self.now.definers c.args.self.now.roles c.in-Ok.rows.items c.in-Ok.ensures.ordered held.1 c.in-Ok.ensures.rows
