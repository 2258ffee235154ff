use Rattle.dialects_int.proofs.KnownOperands.{folds_stay}
use Rattle.dialects_int.proofs.fold_laws.folds_stay.Goals as goal

pub returns : goal.returns
returns c before after holds grows = folds_stay before after holds grows
