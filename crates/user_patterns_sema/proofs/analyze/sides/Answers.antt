use Rattle.std.proofs.Common.{arith}
use Rattle.user_patterns_text.specs.Parts.{pattern_view}
use Rattle.user_patterns_sema_base.proofs.Lists.{variables_length}
use Rattle.user_patterns_sema.specs.SemaViews.{places_view}
use Rattle.user_patterns_sema.proofs.Ending.{gives_last, gives_error}
use Rattle.user_patterns_sema.proofs.analyze.sides.Goals as goal

pub returns-in-Ok-ends-clause-gives : goal.returns-in-Ok-ends-clause-gives
returns-in-Ok-ends-clause-gives c =
    let vs = c.args.places.now.variables in
    gives_last (places_view c.args.places.now) (pattern_view c.args.pattern.now) _ _ _ c.finished.result
    (omega (arith, c.len.ensures, vs.ok.0, variables_length vs.items)) c.in-Ok.ensures c.in-Ok-ends.ensures c.finished.ensures.gives

pub returns-in-Err-ends-clause-gives : goal.returns-in-Err-ends-clause-gives
returns-in-Err-ends-clause-gives c =
    let vs = c.args.places.now.variables in
    gives_error (places_view c.args.places.now) (pattern_view c.args.pattern.now) _ _ c.in-Err-ends.e
    (omega (arith, c.len.ensures, vs.ok.0, variables_length vs.items)) c.in-Ok.ensures c.in-Err-ends.ensures
