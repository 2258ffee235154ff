use Rattle.patterns.proofs.Adding.{added_none}
use Rattle.user_patterns_apply.proofs.intern.type_number.Goals as goal

pub returns-in-Matched-clause-added : goal.returns-in-Matched-clause-added
returns-in-Matched-clause-added g c = added_none g.L.Analysis.meaning c.args.bench.now
