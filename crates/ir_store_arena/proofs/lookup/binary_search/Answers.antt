use Rattle.std.proofs.Common.{sym, subst}
use Rattle.ir_tree_laws.specs.trees.Meaning.{key_before_in}
use Rattle.ir_store_arena.proofs.Orders.{context_order}
use Rattle.ir_store_arena.proofs.Lookups.{Point, point_start, point_step, point_less, point_equal}
use Rattle.ir_store_arena.proofs.Splits.{uncons}
use Rattle.ir_store_arena.proofs.lookup.binary_search.Goals as goal

pub loop-rest-init : goal.loop-rest-init
loop-rest-init c = point_start (key_before_in c.args.ctx.now) c.args.key c.args.entries.now

pub returns-then-comes_before : goal.returns-then-comes_before
returns-then-comes_before c =
    let u = uncons c.loop-rest.rest.now c.entry-item.result _ c.in-len1-up.len_at_least c.entry-item.is in
    point_less (key_before_in c.args.ctx.now) (context_order c.args.ctx.now) c.args.key c.loop-rest.at c.args.entries.now c.entry-item.result _ (sym c.if-comes_before.ensures)
    (subst (λ z. Point (key_before_in c.args.ctx.now) c.args.key c.loop-rest.at z c.args.entries.now) u c.loop-rest.invariant)

pub returns-then-not-comes_before : goal.returns-then-not-comes_before
returns-then-not-comes_before c =
    let u = uncons c.loop-rest.rest.now c.entry-item.result _ c.in-len1-up.len_at_least c.entry-item.is in
    point_equal (key_before_in c.args.ctx.now) (context_order c.args.ctx.now) c.args.key c.loop-rest.at c.args.entries.now c.entry-item.result _ (sym c.if-comes_before.ensures) (sym c.if-not-comes_before.ensures)
    (subst (λ z. Point (key_before_in c.args.ctx.now) c.args.key c.loop-rest.at z c.args.entries.now) u c.loop-rest.invariant)

pub loop-rest-preserved : goal.loop-rest-preserved
loop-rest-preserved c =
    let u = uncons c.loop-rest.rest.now c.entry-item.result _ c.in-len1-up.len_at_least c.entry-item.is in
    point_step (key_before_in c.args.ctx.now) (context_order c.args.ctx.now) c.args.key c.loop-rest.at c.args.entries.now c.entry-item.result _ (sym c.if-comes_before.ensures) (sym c.if-not-comes_before.ensures)
    (subst (λ z. Point (key_before_in c.args.ctx.now) c.args.key c.loop-rest.at z c.args.entries.now) u c.loop-rest.invariant)
