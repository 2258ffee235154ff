use Rattle.std.proofs.Common.{refl}
use Rattle.patterns.proofs.Numbers.{type_keeps}
use Rattle.patterns.proofs.Standing.{difference_edits_stand}
use Rattle.patterns.proofs.plans.difference.Goals as goal

pub returns-in-Ok-difference_edits-clause-stands : goal.returns-in-Ok-difference_edits-clause-stands
returns-in-Ok-difference_edits-clause-stands g c =
    difference_edits_stand c.difference_attrs.new.bench.transaction.ctx c.is_wellformed.ensures.context c.args.site.now c.args.ty _
    (type_keeps c.args.bench.now.transaction.ctx c.difference_attrs.new.bench.transaction.ctx c.args.ty _ c.in-Ok.ensures.added.grown.grows (c.requires.ty, refl))
    c.in-Ok.attrs.0 c.in-Ok.attrs.1 c.in-Ok.attrs.2 c.args.ones c.in-Ok.ensures.ok c.args.first.now c.args.second.now _ c.in-Ok-difference_edits.ensures
