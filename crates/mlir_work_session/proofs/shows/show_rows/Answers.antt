use Rattle.std.proofs.Common.{◌≡◌, ◌⊎◌, true, sym}
use Rattle.mlir_work_transforms.specs.rewriter.Held.{module_held}
use Rattle.ir_event.specs.Panels.{is_kind as has_this_kind}
use Rattle.mlir_work_session.proofs.Obeying.{reports_none, reports_stale, reports_rows}
use Rattle.mlir_work_session.proofs.Panels.{find_has}
use Rattle.mlir_work_session.proofs.Reading.{held_rows, held_agrees}
use Rattle.mlir_work_session.proofs.shows.show_rows.Goals as goal

pub returns-in_default : goal.returns-in_default
returns-in_default g c session_options = rw (c.refused.ensures.reply, c.refused.ensures.shows) (reports_none session_options g.L.Analysis.meaning c.args.kind c.args.bench.now c.in_default.ensures)

pub text_of_report-requires : goal.text_of_report-requires
text_of_report-requires g c =
    let meaning = g.L.Analysis.meaning in
    let h = c.args.bench.now.transaction in
    held_agrees meaning h c.world.result.now c.world.ensures.ctx c.world.ensures.store c.in-Some.listener.now
    (find_has meaning (λ b. (meaning b).agrees h.ctx (module_held h) ⊎ ((meaning b).stale ≡ true)) (has_this_kind meaning c.args.kind) c.args.bench.now.listeners c.in-Some.listener.now c.requires (sym c.in-Some.ensures))

pub returns-in-Err-Stale : goal.returns-in-Err-Stale
returns-in-Err-Stale g c session_options = rw (c.refused-in-Err-Stale.ensures.reply, c.refused-in-Err-Stale.ensures.shows) (reports_stale session_options g.L.Analysis.meaning c.args.kind c.args.bench.now c.in-Some.listener.now c.in-Some.ensures (c.in-Err-Stale.ensures.stale c.in-Err-Stale.field-0-is))

pub returns : goal.returns
returns g c session_options = reports_rows session_options g.L.Analysis.meaning c.args.kind c.args.bench.now c.in-Some.listener.now c.in-Ok.shows.items c.in-Some.ensures c.in-Ok.ensures.fresh (held_rows g.L.Analysis.meaning c.args.bench.now.transaction c.world.result.now c.world.ensures.ctx c.world.ensures.store c.in-Some.listener.now _ c.in-Ok.ensures.text)
