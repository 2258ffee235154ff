use Rattle.user_patterns_data.proofs.BoundValues.{pattern_ops_stand}
use Rattle.user_patterns_data.proofs.laws.matching_keeps_values.Goals as goal

pub returns : goal.returns
returns c = pattern_ops_stand
