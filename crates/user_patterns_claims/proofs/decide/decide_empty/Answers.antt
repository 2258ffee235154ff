use Rattle.user_patterns_data.specs.Shapes.{pattern_model}
use Rattle.user_patterns_claims.proofs.Answering.{empty_decided}
use Rattle.user_patterns_claims.proofs.decide.decide_empty.Goals as goal

pub returns : goal.returns
returns c = empty_decided (pattern_model c.args.pattern.now) _ c.decide_aim.ensures
