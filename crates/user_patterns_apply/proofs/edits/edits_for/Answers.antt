use Rattle.std.proofs.Common.{ap, ◌∙◌}
use Rattle.user_patterns_apply.specs.Planned.{makings}
use Rattle.user_patterns_apply.proofs.Makings.{given_stands}
use Rattle.user_patterns_apply.proofs.edits.edits_for.Goals as goal

pub returns-in-Ok-give-clause-stands : goal.returns-in-Ok-give-clause-stands
returns-in-Ok-give-clause-stands g c =
    given_stands c.args.bench.now.transaction.ctx c.all_makings.new.bench.transaction.ctx c.args.next c.args.op c.args.planned.now c.in-Ok.edits.items c.give.new.edits.items
    (c.in-Ok.ensures.meaning ∙ ap (makings c.args.bench.now.transaction.ctx c.args.next c.args.planned.now.point) c.deref.ensures.value) c.in-Ok.ensures.fits_in c.in-Ok-give.ensures
