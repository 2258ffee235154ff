use Rattle.std.proofs.Common.{sym, subst}
use Rattle.ir_tree_laws.specs.trees.Meaning.{key_before_in}
use Rattle.ir_store_arena.proofs.Orders.{context_order}
use Rattle.ir_store_arena.proofs.Lookups.{Sought, sought_start, sought_step, sought_found}
use Rattle.ir_store_arena.proofs.Splits.{uncons}
use Rattle.ir_store_arena.proofs.lookup.find_entry.Goals as goal

pub loop-rest-init : goal.loop-rest-init
loop-rest-init c = sought_start (key_before_in c.args.ctx.now) c.args.key c.args.entries.now

pub returns-then-is_same : goal.returns-then-is_same
returns-then-is_same c =
    let u = uncons c.loop-rest.rest.now c.entry-item.result _ c.in-len1-up.len_at_least c.entry-item.is in
    sought_found (key_before_in c.args.ctx.now) (context_order c.args.ctx.now) c.args.key c.loop-rest.at c.args.entries.now c.entry-item.result _ (sym c.if-is_same.ensures)
    (subst (λ z. Sought (key_before_in c.args.ctx.now) c.args.key c.loop-rest.at z c.args.entries.now) u c.loop-rest.invariant)

pub loop-rest-preserved : goal.loop-rest-preserved
loop-rest-preserved c =
    let u = uncons c.loop-rest.rest.now c.entry-item.result _ c.in-len1-up.len_at_least c.entry-item.is in
    sought_step (key_before_in c.args.ctx.now) (context_order c.args.ctx.now) c.args.key c.loop-rest.at c.args.entries.now c.entry-item.result _ (sym c.if-is_same.ensures)
    (subst (λ z. Sought (key_before_in c.args.ctx.now) c.args.key c.loop-rest.at z c.args.entries.now) u c.loop-rest.invariant)
