use Rattle.std.proofs.Common.{◌≡◌, sym, ◌∙◌, true, arith}
use Rattle.effects.proofs.Reached.{few_regions}
use Rattle.greedy.specs.Reached.{ends}
use Rattle.greedy.proofs.Adding.{adds_nothing}
use Rattle.greedy.proofs.Reached.{lasts_absent, lasts_begin, lasts_more, lasts_end}
use Rattle.greedy.proofs.block.push_lasts.Goals as goal

pub returns-in_default : goal.returns-in_default
returns-in_default c =
    let t = c.args.world.now.store.module_of.tree in
    adds_nothing (λ x. ends c.args.op x t ≡ true) c.args.ops.now.items (lasts_absent t c.args.world.now.wellformed.distinct c.args.op (sym c.in_default.is ∙ c.shown.ensures.node))

pub overflow_cast-count : goal.overflow_cast-count
overflow_cast-count c =
    let few = few_regions c.args.world.now c.args.op c.in-Some.node (sym c.in-Some.is ∙ c.shown.ensures.node) in
    let count = c.region_count-count.ensures in
    omega (arith, few, count)

pub overflow_add-region : goal.overflow_add-region
overflow_add-region c =
    let few = few_regions c.args.world.now c.args.op c.in-Some.node (sym c.in-Some.is ∙ c.shown.ensures.node) in
    let count = c.region_count-count.ensures in
    let low = c.regions-test.true in
    omega (arith, few, count, low)

pub regions-init : goal.regions-init
regions-init c = lasts_begin c.args.world.now.store.module_of.tree c.args.world.now.wellformed.distinct c.args.op _ c.in-Some.node (sym c.in-Some.is ∙ c.shown.ensures.node) c.region_count-count.ensures c.args.ops.now.items

pub regions-preserved : goal.regions-preserved
regions-preserved c =
    let t = c.args.world.now.store.module_of.tree in
    lasts_more (λ x. ends c.args.op x t ≡ true) t c.args.op c.regions.region c.region_count-count.result c.args.ops.now.items c.regions.ops.items _ c.regions.invariant c.in_ok-push_last.ensures

pub returns : goal.returns
returns c =
    let t = c.args.world.now.store.module_of.tree in
    let past = c.regions-test.false in
    lasts_end (λ x. ends c.args.op x t ≡ true) t c.args.op c.regions.region c.region_count-count.result c.args.ops.now.items c.regions.ops.items (omega (arith, past)) c.regions.invariant
