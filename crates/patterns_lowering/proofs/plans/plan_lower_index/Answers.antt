use Rattle.std.proofs.Common.{ap, ◌∙◌, ◌||◌}
use Rattle.ir_event.specs.types.Terms.{name_term}
use Rattle.patterns_soundness.specs.base.Words.{among, index_users}
use Rattle.patterns_soundness.specs.base.Lowering.{any, lower_index}
use Rattle.patterns_lowering.proofs.Ruled.{not_there, not_lower_index, unmarked_lower_index, is_lower_index, indexed}
use Rattle.patterns_lowering.proofs.plans.plan_lower_index.Goals as goal

pub returns-in_default-clause-edits : goal.returns-in_default-clause-edits
returns-in_default-clause-edits c = not_there lower_index c.args.world.now c.args.op c.in_default.ensures.node

pub returns-then-not-is_user-clause-edits : goal.returns-then-not-is_user-clause-edits
returns-then-not-is_user-clause-edits c =
    not_lower_index c.args.world.now c.args.op c.in-Some.node c.in-Some.ensures.node c.is_user.result (c.is_user.ensures ∙ ap (λ n. among index_users (name_term c.args.world.now.ctx n)) c.name.ensures) c.if-not-is_user.true

pub returns-then-not-is_either-clause-edits : goal.returns-then-not-is_either-clause-edits
returns-then-not-is_either-clause-edits c =
    unmarked_lower_index c.args.world.now c.args.op c.in-Some.node c.in-Some.ensures.node c.in_ok-of.of c.in_ok-of.ensures c.is_either.result
    (c.is_either.ensures ∙ (λ i. any (c.deref.ensures.value i) || any (c.deref-2.ensures.value i))) c.if-not-is_either.true

pub returns-clause-edits : goal.returns-clause-edits
returns-clause-edits c =
    is_lower_index c.args.world.now c.args.op c.in-Some.node c.in-Some.ensures.node c.in_ok-of.of c.in_ok-of.ensures c.is_user.result c.is_either.result
    (c.is_user.ensures ∙ ap (λ n. among index_users (name_term c.args.world.now.ctx n)) c.name.ensures) c.if-not-is_user.false
    (c.is_either.ensures ∙ (λ i. any (c.deref.ensures.value i) || any (c.deref-2.ensures.value i))) c.if-not-is_either.false

pub returns-clause-of : goal.returns-clause-of
returns-clause-of c = indexed c.args.world.now c.args.op c.in-Some.node c.in-Some.ensures.node c.in_ok-of.of c.in_ok-of.ensures
