use Rattle.user_patterns_sema.specs.SemaViews.{sema_view, places_view}
use Rattle.user_patterns_sema.proofs.Steps.{conditions_more, conditions_fail, gives_same}
use Rattle.user_patterns_sema.proofs.conditions.+conditions.Goals as goal

pub returns-in-Ok : goal.returns-in-Ok
returns-in-Ok t c =
    gives_same _ c.conditions.result _ _
    (conditions_more (places_view c.args.places.now) c.args.headroom c.args.parts.now (sema_view c.args.sema.now) _ c.if-headroom-eq0.false c.in-len1-up.len_at_least c.in-Constraint.word _ c.in-Constraint.is c.in-Ok.ensures)
    c.conditions.ensures

pub returns-in-Err : goal.returns-in-Err
returns-in-Err t c =
    conditions_fail (places_view c.args.places.now) c.args.headroom c.args.parts.now (sema_view c.args.sema.now) _ c.if-headroom-eq0.false c.in-len1-up.len_at_least c.in-Err.e c.in-Constraint.word c.in-Constraint.is c.in-Err.ensures
