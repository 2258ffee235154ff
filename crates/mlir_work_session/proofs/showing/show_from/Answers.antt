use Rattle.std.proofs.Common.{◌∙◌}
use Rattle.mlir_work_session_base.specs.OperationObjects.{page_text}
use Rattle.mlir_work_session.proofs.Asking.{in_held}
use Rattle.mlir_work_session.proofs.Fulfilling.{fulfils_missing, fulfils_no_page, fulfils_page}
use Rattle.mlir_work_session.proofs.Reading.{held_bytes}
use Rattle.mlir_work_session.proofs.showing.show_from.Goals as goal

pub returns-then-not-is_in : goal.returns-then-not-is_in
returns-then-not-is_in g c setting =
    rw (c.reply_only.ensures.reply, c.reply_only.ensures.shows) (fulfils_missing setting c.args.op c.args.count _
    (in_held c.args.bench.now.transaction c.world-world.result.now c.world-world.ensures.ctx c.world-world.ensures.store c.args.op _ c.is_in.ensures ∙ c.if-not-is_in.true))

pub returns-in-Ok : goal.returns-in-Ok
returns-in-Ok g c setting =
    fulfils_page setting c.args.op c.args.count _ _
    (in_held c.args.bench.now.transaction c.world-world.result.now c.world-world.ensures.ctx c.world-world.ensures.store c.args.op _ c.is_in.ensures ∙ c.if-not-is_in.false)
    (held_bytes c.args.bench.now.transaction c.world-world.result.now c.world-world.ensures.ctx c.world-world.ensures.store (page_text c.args.op c.args.count) _ c.in-Ok.ensures)

pub returns-in-Err : goal.returns-in-Err
returns-in-Err g c setting =
    rw (c.reply_only-in-Err.ensures.reply, c.reply_only-in-Err.ensures.shows) (fulfils_no_page setting c.args.op c.args.count _
    (in_held c.args.bench.now.transaction c.world-world.result.now c.world-world.ensures.ctx c.world-world.ensures.store c.args.op _ c.is_in.ensures ∙ c.if-not-is_in.false))
