use Rattle.std.proofs.Common.{◌∙◌}
use Rattle.user_patterns_data.specs.Shapes.{pattern_model}
use Rattle.user_patterns_claims.proofs.Answering.{one_decided}
use Rattle.user_patterns_claims.proofs.decide.decide_one.Goals as goal

pub returns : goal.returns
returns c =
    one_decided (pattern_model c.args.question.now.pattern.now) c.args.exprs.now c.args.conditions.now _ _ _ c.args.place _
    (c.len.ensures ∙ c.args.question.now.pattern.now.values.ok.0) c.args.question.now.types_are c.args.question.now.narrower_are c.decide_equal.ensures
