use Rattle.std.proofs.Common.{sym, ◌+◌, ◌∷◌, ◌∙◌, arith, drop}
use Rattle.ir_event.specs.Modules.{module_in}
use Rattle.listeners_support.proofs.Tables.{drop_next}
use Rattle.listeners_symbols.specs.Listeners.{kept_at}
use Rattle.listeners_symbols.proofs.Added.{added_one, added_none, added_as, renewed_in}
use Rattle.listeners_symbols.proofs.table.renew_all.Goals as goal
use Rattle.std.proofs.lemmas.List.{drop_all}

pub loop-op-preserved : goal.loop-op-preserved
loop-op-preserved c =
    let inv = c.loop-op.invariant in
    let w = c.args.view.now.world.now in
    let t = (module_in w).tree in
    let i = c.loop-op.op-index in
    let trailing = drop (i + 1) c.args.ops.now in
    let f = kept_at c.loop-op.roles in
    let g = kept_at c.renew.new.roles in
    let one = renewed_in c.loop-op.view.world.now w inv.0 c.op-item.result f g c.in_ok-renew.ensures.renewed in (
      c.renew.ensures.world ∙ inv.0,
      λ final r. inv.1 final (added_as w.ctx t (c.op-item.result ∷ trailing) (drop i c.args.ops.now) f final (sym (drop_next c.args.ops.now i c.op-item.result c.loop-op-test.true c.op-item.is)) (added_one w.ctx t c.op-item.result trailing f g final one r)),
    )

pub returns : goal.returns
returns c =
    let w = c.args.view.now.world.now in
    let f = kept_at c.loop-op.roles in
    c.loop-op.invariant.1 f (added_as w.ctx (module_in w).tree _ _ f f (sym (drop_all c.loop-op.op-index c.args.ops.now (let k = c.loop-op-test.false in omega arith))) (added_none w.ctx (module_in w).tree f))
