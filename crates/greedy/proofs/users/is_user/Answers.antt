use Rattle.std.proofs.Common.{ap, sym, ◌∙◌}
use Rattle.std.specs.List.{list_any}
use Rattle.effects.specs.Dead.{is_result_of}
use Rattle.greedy.proofs.Using.{not_user_none, not_user_some}
use Rattle.greedy.proofs.users.is_user.Goals as goal

pub returns-in-None : goal.returns-in-None
returns-in-None c = λ e u. not_user_none c.args.world.now c.args.user c.args.op (sym c.in-None.is ∙ c.shown.ensures.node) u

pub returns-in-Some : goal.returns-in-Some
returns-in-Some c = λ e u.
    not_user_some c.args.world.now c.args.user c.args.op c.in-Some.node (sym c.in-Some.is ∙ c.shown.ensures.node)
    (ap (list_any (is_result_of c.args.op)) (sym c.operands.ensures) ∙ sym c.has_result.ensures ∙ e) u
