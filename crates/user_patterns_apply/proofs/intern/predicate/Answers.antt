use Rattle.patterns.proofs.Adding.{added_on}
use Rattle.user_patterns_apply.proofs.intern.predicate.Goals as goal

pub returns-clause-added : goal.returns-clause-added
returns-clause-added g c = added_on g.L.Analysis.meaning c.args.bench.now c.kind_type.new.bench c.integer.new.bench c.is_wellformed.ensures.context.holds c.in-Ok.ensures.added c.integer.ensures.added
