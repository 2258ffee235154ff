use Rattle.std.proofs.Common.{refl}
use Rattle.patterns.proofs.Standing.{cast_edits_stand}
use Rattle.patterns.proofs.plans.recast.Goals as goal

pub returns : goal.returns
returns g c =
    cast_edits_stand c.args.bench.now.transaction.ctx c.is_wellformed.ensures.context c.args.site.now c.args.ty _ (c.requires.ty, refl) c.args.name _ (c.requires.name, refl) c.args.value _ refl
