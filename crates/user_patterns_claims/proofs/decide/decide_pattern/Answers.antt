use Rattle.user_patterns_data.specs.Shapes.{pattern_model}
use Rattle.user_patterns_claims.proofs.Answering.{pattern_decided}
use Rattle.user_patterns_claims.proofs.decide.decide_pattern.Goals as goal

pub returns : goal.returns
returns c = pattern_decided (pattern_model c.args.pattern.now) _ c.decide_aim.ensures
