use Rattle.std.proofs.Common.{sym, subst}
use Rattle.ir_store_arena.proofs.Lookups.{Fled, fled_start, fled_step, fled_found}
use Rattle.ir_store_arena.proofs.Splits.{uncons}
use Rattle.ir_store_arena.proofs.lookup.find_gone.Goals as goal

pub loop-rest-init : goal.loop-rest-init
loop-rest-init c = fled_start c.args.key c.args.gone.now

pub returns-then-eq : goal.returns-then-eq
returns-then-eq c =
    let u = uncons c.loop-rest.rest.now c.entry-item.result _ c.in-len1-up.len_at_least c.entry-item.is in
    fled_found c.args.key c.loop-rest.at c.args.gone.now c.entry-item.result _ (sym c.if-eq.ensures)
    (subst (λ z. Fled c.args.key c.loop-rest.at z c.args.gone.now) u c.loop-rest.invariant)

pub loop-rest-preserved : goal.loop-rest-preserved
loop-rest-preserved c =
    let u = uncons c.loop-rest.rest.now c.entry-item.result _ c.in-len1-up.len_at_least c.entry-item.is in
    fled_step c.args.key c.loop-rest.at c.args.gone.now c.entry-item.result _ (sym c.if-eq.ensures)
    (subst (λ z. Fled c.args.key c.loop-rest.at z c.args.gone.now) u c.loop-rest.invariant)
