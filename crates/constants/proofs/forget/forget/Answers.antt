use Rattle.std.proofs.Common.{false, refl, rules}
use Rattle.constants.proofs.Forgets.{forgot_unknown, forgot_known}
use Rattle.constants.proofs.Forgetful.{known_none, known_some, never, pushed, not_pushed, forgot_same}
use Rattle.constants.specs.Tables.{known_in}
use Rattle.constants.proofs.forget.forget.Goals as goal

pub returns-in_default : goal.returns-in_default
returns-in_default c = forgot_unknown _ c.args.op (known_in c.args.table.now) c.args.trail.now.items (known_none c.fact.result _ c.fact.ensures c.in_default.is)

pub returns-then-not-push : goal.returns-then-not-push
returns-then-not-push c =
    forgot_same _ _ (known_in c.args.table.now) c.args.trail.now.items _ (never false refl) (not_pushed c.push.result _ _ _ c.push.ensures (search rules))

pub returns : goal.returns
returns c =
    forgot_known _ c.args.op _ (known_in c.args.table.now) (known_in c.drop_fact.new.table) c.args.trail.now.items c.push.new.trail.items (known_some c.fact.result _ _ c.fact.ensures c.in-Some.is) c.drop_fact.ensures
    (pushed c.push.result c.args.op c.args.trail.now.items c.push.new.trail.items c.push.ensures (search rules))
