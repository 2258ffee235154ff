use Rattle.std.proofs.Common.{sym, ◌∙◌}
use Rattle.patterns.proofs.plan.made_of.Goals as goal

pub made_lowered-requires-clause-verified : goal.made_lowered-requires-clause-verified
made_lowered-requires-clause-verified c = c.requires.verified (sym c.is_lowering.ensures ∙ c.if-is_lowering.true)
