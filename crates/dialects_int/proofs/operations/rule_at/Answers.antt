use Rattle.dialects_int.specs.Folds.{rules}
use Rattle.dialects_int.proofs.operations.rule_at.Goals as goal

pub returns : goal.returns
unfolding rules
returns c = c.entry.ensures
