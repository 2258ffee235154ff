use Rattle.std.proofs.Common.{◌∙◌}
use Rattle.listeners_example.proofs.Showing.{shows_additions}
use Rattle.listeners_example.proofs.additions.AdditionCountAnalysis.report.Goals as goal

pub returns-in-Ok-rows-clause-agreed : goal.returns-in-Ok-rows-clause-agreed
returns-in-Ok-rows-clause-agreed c things m held = shows_additions things m.tree c.facts.result.now.entries c.in-Ok.count c.in-Ok-rows.rows.items (c.facts.ensures.in_order m.tree held.1) (c.in-Ok.ensures.1 ∙ c.len.ensures.len) c.in-Ok-rows.ensures
