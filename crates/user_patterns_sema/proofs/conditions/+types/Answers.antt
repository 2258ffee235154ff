use Rattle.std.proofs.Common.{sym, map}
use Rattle.user_patterns_text.specs.Parts.{part_view}
use Rattle.user_patterns_sema.specs.Sema.{type_at}
use Rattle.user_patterns_sema.specs.SemaViews.{sema_view}
use Rattle.user_patterns_sema.proofs.Steps.{gathered_ends, gathered_fails, gathered_more, gives_same}
use Rattle.user_patterns_sema.proofs.conditions.+types.Goals as goal

pub returns-in-Some : goal.returns-in-Some
returns-in-Some t c =
    gathered_ends type_at c.args.headroom c.args.found.now.items (map part_view c.args.parts.now, sema_view c.args.sema.now)
    c.if-headroom-eq0.false _ (sym c.in-Some.ensures)

pub returns-in-Err : goal.returns-in-Err
returns-in-Err t c =
    gathered_fails type_at c.args.headroom c.args.found.now.items (map part_view c.args.parts.now, sema_view c.args.sema.now)
    c.if-headroom-eq0.false c.in-Err.e (sym c.in_default.ensures) c.in-Err.ensures

pub returns-in-Ok-push : goal.returns-in-Ok-push
returns-in-Ok-push t c =
    gives_same _ c.types.result _ _
    (gathered_more type_at c.args.headroom c.args.found.now.items (map part_view c.args.parts.now, sema_view c.args.sema.now)
    c.if-headroom-eq0.false (_, _) _ (sym c.in_default.ensures) c.in-Ok.ensures c.in-Ok-push.ensures.items)
    c.types.ensures
