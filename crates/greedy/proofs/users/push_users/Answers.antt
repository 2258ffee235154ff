use Rattle.std.proofs.Common.{ap, sym, ◌∙◌, length, arith}
use Rattle.effects.proofs.Unused.{few_results}
use Rattle.greedy.specs.LocalContext.{Uses}
use Rattle.greedy.proofs.Adding.{adds_nothing}
use Rattle.greedy.proofs.Using.{users_absent, users_begin, users_more, users_end}
use Rattle.greedy.proofs.users.push_users.Goals as goal

pub returns-in_default : goal.returns-in_default
returns-in_default c = adds_nothing (λ x. Uses x c.args.op c.args.world.now.store.module_of.tree) c.args.ops.now.items (users_absent c.args.world.now c.args.op (sym c.in_default.is ∙ c.shown.ensures.node))

pub overflow_cast-count : goal.overflow_cast-count
overflow_cast-count c =
    let few = few_results c.args.world.now c.args.op c.in-Some.node (sym c.in-Some.is ∙ c.shown.ensures.node) in
    let same = ap length c.results.ensures in
    omega (arith, few, same)

pub overflow_add-number : goal.overflow_add-number
overflow_add-number c =
    let few = few_results c.args.world.now c.args.op c.in-Some.node (sym c.in-Some.is ∙ c.shown.ensures.node) in
    let same = ap length c.results.ensures in
    let low = c.numbers-test.true in
    omega (arith, few, same, low)

pub numbers-init : goal.numbers-init
numbers-init c = users_begin c.args.world.now c.args.op _ c.in-Some.node (sym c.in-Some.is ∙ c.shown.ensures.node) (ap length c.results.ensures) c.args.ops.now.items

pub numbers-preserved : goal.numbers-preserved
numbers-preserved c =
    users_more c.args.world.now (λ x. Uses x c.args.op c.args.world.now.store.module_of.tree) c.args.op c.numbers.number (length c.results.result.now) c.args.ops.now.items c.numbers.ops.items _ c.numbers.invariant c.in_ok-push_uses.ensures

pub returns : goal.returns
returns c =
    let past = c.numbers-test.false in
    users_end c.args.world.now (λ x. Uses x c.args.op c.args.world.now.store.module_of.tree) c.args.op c.numbers.number (length c.results.result.now) c.args.ops.now.items c.numbers.ops.items (omega (arith, past)) c.numbers.invariant
