use Rattle.listeners_support.proofs.SortedFacts.{map_in_order}
use Rattle.listeners_support.proofs.fact_table.FactTable.facts.Goals as goal

pub returns-clause-in_order : goal.returns-clause-in_order
returns-clause-in_order g c t held = map_in_order g.F.LocalFact.fact g.F.LocalFact.kept t c.args.self.now.table c.len.ensures.ordered held
