use Rattle.std.proofs.Common.{subst, sym}
use Rattle.patterns.specs.Planned.{MadeIsOf}
use Rattle.patterns_lowering.specs.Plans.{LoweringIsOf}
use Rattle.patterns.proofs.count.made_makes.Goals as goal

pub lowering_makes-requires : goal.lowering_makes-requires
lowering_makes-requires c = (c.requires.0, subst (LoweringIsOf c.requires.0) (sym c.deref.ensures) (subst (MadeIsOf c.requires.0) c.in-Lowering.is c.requires.1))
