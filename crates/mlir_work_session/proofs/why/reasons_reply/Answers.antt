use Rattle.std.proofs.Common.{◌∙◌}
use Rattle.mlir_work_session.proofs.Asking.{in_held, lines_held}
use Rattle.mlir_work_session.proofs.Fulfilling.{fulfils_absent, fulfils_unwhy, fulfils_why}
use Rattle.mlir_work_session.proofs.why.reasons_reply.Goals as goal

pub returns-then-not-is_in : goal.returns-then-not-is_in
returns-then-not-is_in g c setting name asks =
    rw (c.reply_only.ensures.reply, c.reply_only.ensures.shows) (fulfils_absent setting c.args.op name _ _ asks
    (in_held c.args.bench.now.transaction c.world-world.result.now c.world-world.ensures.ctx c.world-world.ensures.store c.args.op _ c.is_in.ensures ∙ c.if-not-is_in.true))

pub returns-in-Ok : goal.returns-in-Ok
returns-in-Ok g c setting name asks =
    fulfils_why setting c.args.op name _ _ _ asks
    (in_held c.args.bench.now.transaction c.world-world.result.now c.world-world.ensures.ctx c.world-world.ensures.store c.args.op _ c.is_in.ensures ∙ c.if-not-is_in.false)
    (lines_held c.args.bench.now.transaction c.world-world.result.now c.world-world.ensures.ctx c.world-world.ensures.store c.args.rule c.args.op _ c.in-Ok.ensures)

pub returns-in-Err : goal.returns-in-Err
returns-in-Err g c setting name asks =
    rw (c.reply_only-in-Err.ensures.reply, c.reply_only-in-Err.ensures.shows) (fulfils_unwhy setting c.args.op name _ _ asks
    (in_held c.args.bench.now.transaction c.world-world.result.now c.world-world.ensures.ctx c.world-world.ensures.store c.args.op _ c.is_in.ensures ∙ c.if-not-is_in.false))
