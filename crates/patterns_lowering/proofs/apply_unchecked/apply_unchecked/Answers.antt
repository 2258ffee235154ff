use Rattle.rewriter.proofs.Noted.{keeps_left}
use Rattle.patterns_lowering.proofs.Carrying.{Begun, Closed, kept_along, noted_whole, recorded_back, undone_along}
use Rattle.patterns_lowering.proofs.Freely.{begun_free}
use Rattle.patterns_lowering.proofs.apply_unchecked.apply_unchecked.Goals as goal

pub returns-in-Ok-clause-along : goal.returns-in-Ok-clause-along
returns-in-Ok-clause-along g c =
    kept_along g.L.Analysis.meaning c.led_benches_are_kept.ensures.more c.args.bench.now c.step.new.self c.carry_all.new.bench c.commit.new.self c.is_wellformed.ensures.context.holds
    (record { ctx = c.step.ensures.ctx; goes = c.in_default.ensures.does; led = c.step.ensures.led }) c.in-Ok.ensures.along (record { ctx = c.commit.ensures.ctx; led = c.commit.ensures.led }) _ c.commit.ensures.does

pub returns-in-Ok-clause-journal : goal.returns-in-Ok-clause-journal
returns-in-Ok-clause-journal g c =
    let begun : Begun g.L.Analysis.meaning c.args.bench.now c.step.new.self = record { ctx = c.step.ensures.ctx; goes = c.in_default.ensures.does; led = c.step.ensures.led } in
    let closed : Closed g.L.Analysis.meaning c.carry_all.new.bench c.commit.new.self = record { ctx = c.commit.ensures.ctx; led = c.commit.ensures.led } in
    noted_whole g.L.Analysis.meaning c.led_benches_are_kept.ensures.more c.args.bench.now c.step.new.self c.carry_all.new.bench c.commit.new.self c.is_wellformed.ensures.context.holds begun c.in-Ok.ensures.along closed c.in_default.ensures.ok c.commit.result
    c.commit.ensures.ok c.commit.ensures.none
    (kept_along g.L.Analysis.meaning c.led_benches_are_kept.ensures.more c.args.bench.now c.step.new.self c.carry_all.new.bench c.commit.new.self c.is_wellformed.ensures.context.holds begun c.in-Ok.ensures.along closed _ c.commit.ensures.does)
    c.step.ensures.untold c.in-Ok.ensures.journal c.commit.ensures.untold c.is_wellformed.ensures.none

pub returns-in-Err-carry_all-clause-along : goal.returns-in-Err-carry_all-clause-along
returns-in-Err-carry_all-clause-along g c =
    undone_along g.L.Analysis.meaning c.led_benches_are_kept.ensures.more c.args.bench.now c.step.new.self c.carry_all.new.bench c.rollback.new.self c.is_wellformed.ensures.context.holds
    (record { ctx = c.step.ensures.ctx; goes = c.in_default.ensures.does; led = c.step.ensures.led }) c.in-Err-carry_all.ensures.along (record { ctx = c.rollback.ensures.ctx; led = c.rollback.ensures.led }) _ c.rollback.ensures.does

pub returns-in-Err-clause-journal : goal.returns-in-Err-clause-journal
returns-in-Err-clause-journal g c = keeps_left g.L.Analysis.meaning c.args.bench.now c.step.new.self c.in-Err.ensures.err

pub returns-in-Err-carry_all-clause-journal : goal.returns-in-Err-carry_all-clause-journal
returns-in-Err-carry_all-clause-journal g c =
    recorded_back c.rollback.result c.args.bench.now.transaction c.step.new.self.transaction c.carry_all.new.bench.transaction c.rollback.new.self.transaction c.in_default.ensures.ok c.in-Err-carry_all.ensures.noted c.rollback.ensures.ok c.rollback.ensures.none c.is_wellformed.ensures.none

pub carry_all-requires-clause-free : goal.carry_all-requires-clause-free
carry_all-requires-clause-free g c =
    begun_free g.L.Analysis.meaning c.args.bench.now c.step.new.self (record { ctx = c.step.ensures.ctx; goes = c.in_default.ensures.does; led = c.step.ensures.led }) c.args.edits.now c.requires.free
