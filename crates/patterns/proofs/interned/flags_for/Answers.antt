use Rattle.patterns.proofs.Adding.{added_none}
use Rattle.patterns.proofs.interned.flags_for.Goals as goal

pub returns-then-not-is_flagged-clause-added : goal.returns-then-not-is_flagged-clause-added
returns-then-not-is_flagged-clause-added g c = added_none g.L.Analysis.meaning c.args.bench.now
