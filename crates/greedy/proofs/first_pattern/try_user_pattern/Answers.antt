use Rattle.patterns.proofs.Carrying.{applied_none, journaled_none}
use Rattle.greedy.proofs.first_pattern.try_user_pattern.Goals as goal

pub returns-then-not-is_shallow-clause-stays : goal.returns-then-not-is_shallow-clause-stays
returns-then-not-is_shallow-clause-stays g c = applied_none g.L.Analysis.meaning c.args.bench.now

pub returns-then-not-is_shallow-clause-journal : goal.returns-then-not-is_shallow-clause-journal
returns-then-not-is_shallow-clause-journal g c = journaled_none g.L.Analysis.meaning c.args.bench.now
