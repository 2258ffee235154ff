use Rattle.patterns.proofs.Adding.{added_on}
use Rattle.patterns.proofs.interned.predicate_attr.Goals as goal

pub returns-clause-added : goal.returns-clause-added
returns-clause-added g c = added_on g.L.Analysis.meaning c.args.bench.now c.integer_type.new.bench c.value_attr.new.bench c.is_wellformed.ensures.context.holds c.in-Ok.ensures.added c.value_attr.ensures.added
