use Rattle.std.proofs.Common.{◌+◌, sym, ◌∙◌, arith, drop, [], ◌∷◌}
use Rattle.std.specs.Ordering.{nat_cmp}
use Rattle.std.specs.BTreeMap.{get}
use Rattle.ir_event.specs.Modules.{module_in}
use Rattle.listeners_support.specs.Facts.{kept_of}
use Rattle.listeners_support.proofs.Tables.{renewed_also, renewed_as, renewed_in, renewed_none, drop_next}
use Rattle.listeners_support.proofs.fact_table.renew_all.Goals as goal
use Rattle.std.proofs.lemmas.List.{drop_all}

pub loop-op-preserved : goal.loop-op-preserved
loop-op-preserved g c =
    let inv = c.loop-op.invariant in
    let fact = g.F.LocalFact.fact in
    let kept = g.F.LocalFact.kept in
    let w = c.args.view.now.world.now in
    let facts = kept_of fact kept (module_in w).tree in
    let i = c.loop-op.op-index in
    let trailing = drop (i + 1) c.args.ops.now in
    let t0 = get nat_cmp c.loop-op.table in
    let t1 = get nat_cmp c.renew.new.table in
    let one = renewed_in fact kept c.loop-op.view.world.now w inv.0 (c.op-item.result ∷ []) t0 t1 c.in_ok-renew.ensures.renewed in (
      c.renew.ensures.world ∙ inv.0,
      λ final r. inv.1 final (renewed_as facts (c.op-item.result ∷ trailing) (drop i c.args.ops.now) t0 final (sym (drop_next c.args.ops.now i c.op-item.result c.loop-op-test.true c.op-item.is)) (renewed_also facts c.op-item.result trailing t0 t1 final one r)),
    )

pub returns-clause-renewed : goal.returns-clause-renewed
returns-clause-renewed g c =
    let t0 = get nat_cmp c.loop-op.table in
    c.loop-op.invariant.1 t0 (renewed_none _ (drop c.loop-op.op-index c.args.ops.now) t0 (drop_all c.loop-op.op-index c.args.ops.now (let k = c.loop-op-test.false in omega arith)))
