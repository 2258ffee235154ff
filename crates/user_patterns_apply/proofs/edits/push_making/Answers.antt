use Rattle.user_patterns_apply.proofs.Makings.{pushed_fit, pushed_meaning}
use Rattle.user_patterns_apply.proofs.edits.push_making.Goals as goal

pub returns-in-Ok-push-clause-meaning : goal.returns-in-Ok-push-clause-meaning
returns-in-Ok-push-clause-meaning g c =
    pushed_meaning c.args.bench.now.transaction.ctx c.making.new.bench.transaction.ctx c.is_wellformed.ensures.context.holds c.in-Ok.ensures.added.grown.grows c.args.edits.now.items c.push.new.edits.items c.requires.fits_in c.in-Ok.edit _ c.in-Ok.ensures.stands c.in-Ok-push.ensures

pub returns-in-Ok-push-clause-fits_in : goal.returns-in-Ok-push-clause-fits_in
returns-in-Ok-push-clause-fits_in g c =
    pushed_fit c.args.bench.now.transaction.ctx c.making.new.bench.transaction.ctx c.is_wellformed.ensures.context.holds c.in-Ok.ensures.added.grown.grows c.args.edits.now.items c.push.new.edits.items c.requires.fits_in c.in-Ok.edit _ c.in-Ok.ensures.stands c.in-Ok-push.ensures
