use Rattle.patterns.proofs.Standing.{mirrored_edits_stand}
use Rattle.patterns.proofs.plans.mirrored.Goals as goal

pub returns-in-Ok-mirrored_edits-clause-stands : goal.returns-in-Ok-mirrored_edits-clause-stands
returns-in-Ok-mirrored_edits-clause-stands g c =
    mirrored_edits_stand c.predicate_attr.new.bench.transaction.ctx c.is_wellformed.ensures.context c.args.site.now c.in-Ok.predicate c.args.predicate c.in-Ok.ensures.ok c.args.first.now c.args.second.now _ c.in-Ok-mirrored_edits.ensures
