use Rattle.user_patterns_data.proofs.Named.{names_fold}
use Rattle.user_patterns_data.proofs.laws.names_fold.Goals as goal

pub returns : goal.returns
returns c = names_fold
