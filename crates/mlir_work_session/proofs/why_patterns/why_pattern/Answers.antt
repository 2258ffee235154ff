use Rattle.std.proofs.Common.{◌∙◌}
use Rattle.mlir_work_session.proofs.Asking.{in_held, pattern_held}
use Rattle.mlir_work_session.proofs.WhyPatterns.{tells_absent, tells_nothing, tells_why}
use Rattle.mlir_work_session.proofs.why_patterns.why_pattern.Goals as goal

pub returns-then-not-is_in : goal.returns-then-not-is_in
returns-then-not-is_in g c =
    rw (c.reply_only.ensures.reply, c.reply_only.ensures.shows) (tells_absent _ _ _
    (in_held c.args.bench.now.transaction c.world-world.result.now c.world-world.ensures.ctx c.world-world.ensures.store c.args.found.1 _ c.is_in.ensures ∙ c.if-not-is_in.true))

pub returns-in-Ok : goal.returns-in-Ok
returns-in-Ok g c =
    tells_why _ _ _
    (in_held c.args.bench.now.transaction c.world-world.result.now c.world-world.ensures.ctx c.world-world.ensures.store c.args.found.1 _ c.is_in.ensures ∙ c.if-not-is_in.false) _
    (pattern_held c.args.bench.now.transaction c.world-world.result.now c.world-world.ensures.ctx c.world-world.ensures.store _ c.args.found.1 _ c.in-Ok.ensures)

pub returns-in-Err : goal.returns-in-Err
returns-in-Err g c =
    rw (c.reply_only-in-Err.ensures.reply, c.reply_only-in-Err.ensures.shows) (tells_nothing _ _ _
    (in_held c.args.bench.now.transaction c.world-world.result.now c.world-world.ensures.ctx c.world-world.ensures.store c.args.found.1 _ c.is_in.ensures ∙ c.if-not-is_in.false))
