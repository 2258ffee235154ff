use Rattle.std.proofs.Common.{◌∙◌, [], eq-eqb}
use Rattle.user_patterns_data.specs.Shapes.{pattern_model}
use Rattle.user_patterns_claims.proofs.Answering.{equation_decided}
use Rattle.user_patterns_claims.proofs.decide.decide_results.Goals as goal

pub returns : goal.returns
returns c =
    equation_decided (pattern_model c.args.question.now.pattern.now) c.args.results.now.old c.args.results.now.new c.args.exprs.now.items _ _ c.args.conditions.now _ _ _ _ _ [] _
    (eq-eqb c.args.results.now.old.ty c.args.results.now.new.ty c.if-results.false) c.in_ok-equation.ensures c.in-Some.is (c.len.ensures ∙ c.args.question.now.pattern.now.values.ok.0) c.as_slice.ensures.value c.args.question.now.types_are c.args.question.now.narrower_are c.decide_equal.ensures
