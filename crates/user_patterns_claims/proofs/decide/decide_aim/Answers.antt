use Rattle.std.proofs.Common.{refl}
use Rattle.user_patterns_data.specs.Shapes.{pattern_model}
use Rattle.user_patterns_claims.proofs.Answering.{aim_decided}
use Rattle.user_patterns_claims.proofs.decide.decide_aim.Goals as goal

pub returns : goal.returns
returns c = aim_decided c.args.aim (pattern_model c.args.pattern.now) c.in-Some.count _ _ c.in-Some.ensures.count refl c.decide_sets.ensures
