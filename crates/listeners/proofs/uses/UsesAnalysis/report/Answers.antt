use Rattle.std.proofs.Common.{ap}
use Rattle.listeners.specs.Uses.{all_uses, in_order}
use Rattle.listeners.specs.Keys.{keys_of}
use Rattle.listeners.specs.Tables.{table_uses}
use Rattle.listeners.proofs.Following.{rows_show}
use Rattle.listeners.proofs.uses.UsesAnalysis.report.Goals as goal

pub returns-in-Ok-clause-agreed : goal.returns-in-Ok-clause-agreed
returns-in-Ok-clause-agreed c things m held = rows_show things c.in-Ok.rows.items (keys_of (in_order (table_uses c.args.self.now.table))) (all_uses m.tree) c.in-Ok.ensures (ap keys_of held.1)
