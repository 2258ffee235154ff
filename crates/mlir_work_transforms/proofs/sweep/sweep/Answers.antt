use Rattle.std.proofs.Common.{◌≡◌, refl, [], length, reverse, true, false, Ok, Err, rules}
use Rattle.conversion.proofs.of_rewriter.Noted.{keeps_left, recorded_none}
use Rattle.conversion.proofs.of_rewriter.Together.{IsBegun, begun_held}
use Rattle.mlir_work_transforms.proofs.EraseOrder.{refused_for}
use Rattle.mlir_work_transforms.proofs.Sweeping.{sweep_unbegun, sweep_goes, sweep_undone, swept_back, swept_in, swept_journaled, swept_led}
use Rattle.mlir_work_transforms.proofs.sweep.sweep.Goals as goal

pub returns-in-Err-clause-does : goal.returns-in-Err-clause-does
returns-in-Err-clause-does g c =
    sweep_unbegun g.L.Analysis.meaning c.led_benches_are_kept.ensures.ages c.led_benches_are_kept.ensures.none c.in-Err.refusal c.args.bench.now c.in-Err.ensures.refused

pub returns-in-Err-clause-led : goal.returns-in-Err-clause-led
returns-in-Err-clause-led g c = ([], c.led_benches_are_kept.ensures.none c.args.bench.now)

pub returns-in-Ok-erase_each-clause-does : goal.returns-in-Ok-erase_each-clause-does
returns-in-Ok-erase_each-clause-does g c =
    let begun : IsBegun g.L.Analysis.meaning c.args.bench.now c.step.new.self = record { ctx = c.step.ensures.ctx; goes = c.in_default.ensures.does; led = c.step.ensures.led } in
    let is = swept_in c.in-Ok.ops.items c.world.result.now.ctx c.args.bench.now.transaction.ctx c.world.result.now.store c.args.bench.now.transaction.store c.world.ensures.ctx c.world.ensures.store c.in-Ok.ensures.ok in
    let count : c.len-count.result ≡ length c.in-Ok.ops.items = search rules in
    sweep_goes g.L.Analysis.meaning c.led_benches_are_kept.ensures.ages c.in-Ok.ops.items c.len-count.result c.args.bench.now c.step.new.self c.erase_each.new.bench c.close_mark.new.bench is count begun c.in-Ok-erase_each.ensures.erases c.close_mark.ensures.finished
    (swept_led g.L.Analysis.meaning c.led_benches_are_kept.ensures.more (Ok tt) (reverse c.in-Ok.ops.items) true c.args.bench.now c.step.new.self c.erase_each.new.bench c.close_mark.new.bench c.is_wellformed.ensures.context.holds begun c.in-Ok-erase_each.ensures.erases c.erase_each.ensures.led c.close_mark.ensures.finished c.close_mark.ensures.led)

pub returns-in-Ok-erase_each-clause-led : goal.returns-in-Ok-erase_each-clause-led
returns-in-Ok-erase_each-clause-led g c =
    let begun : IsBegun g.L.Analysis.meaning c.args.bench.now c.step.new.self = record { ctx = c.step.ensures.ctx; goes = c.in_default.ensures.does; led = c.step.ensures.led } in
    swept_led g.L.Analysis.meaning c.led_benches_are_kept.ensures.more (Ok tt) (reverse c.in-Ok.ops.items) true c.args.bench.now c.step.new.self c.erase_each.new.bench c.close_mark.new.bench c.is_wellformed.ensures.context.holds begun c.in-Ok-erase_each.ensures.erases c.erase_each.ensures.led c.close_mark.ensures.finished c.close_mark.ensures.led

pub returns-clause-does : goal.returns-clause-does
returns-clause-does g c =
    let begun : IsBegun g.L.Analysis.meaning c.args.bench.now c.step.new.self = record { ctx = c.step.ensures.ctx; goes = c.in_default.ensures.does; led = c.step.ensures.led } in
    let is = swept_in c.in-Ok.ops.items c.world.result.now.ctx c.args.bench.now.transaction.ctx c.world.result.now.store c.args.bench.now.transaction.store c.world.ensures.ctx c.world.ensures.store c.in-Ok.ensures.ok in
    sweep_undone g.L.Analysis.meaning c.led_benches_are_kept.ensures.ages c.in-Ok.ops.items c.in-Err-erase_each.refusal c.args.bench.now c.step.new.self c.erase_each.new.bench c.close_mark-in-Err-erase_each.new.bench is begun c.in-Err-erase_each.ensures.erases c.close_mark-in-Err-erase_each.ensures.finished
    (swept_led g.L.Analysis.meaning c.led_benches_are_kept.ensures.more (Err c.in-Err-erase_each.refusal) (reverse c.in-Ok.ops.items) false c.args.bench.now c.step.new.self c.erase_each.new.bench c.close_mark-in-Err-erase_each.new.bench c.is_wellformed.ensures.context.holds begun c.in-Err-erase_each.ensures.erases c.erase_each.ensures.led c.close_mark-in-Err-erase_each.ensures.finished c.close_mark-in-Err-erase_each.ensures.led)

pub returns-clause-led : goal.returns-clause-led
returns-clause-led g c =
    let begun : IsBegun g.L.Analysis.meaning c.args.bench.now c.step.new.self = record { ctx = c.step.ensures.ctx; goes = c.in_default.ensures.does; led = c.step.ensures.led } in
    swept_led g.L.Analysis.meaning c.led_benches_are_kept.ensures.more (Err c.in-Err-erase_each.refusal) (reverse c.in-Ok.ops.items) false c.args.bench.now c.step.new.self c.erase_each.new.bench c.close_mark-in-Err-erase_each.new.bench c.is_wellformed.ensures.context.holds begun c.in-Err-erase_each.ensures.erases c.erase_each.ensures.led c.close_mark-in-Err-erase_each.ensures.finished c.close_mark-in-Err-erase_each.ensures.led

pub returns-clause-refused : goal.returns-clause-refused
returns-clause-refused g c =
    let begun : IsBegun g.L.Analysis.meaning c.args.bench.now c.step.new.self = record { ctx = c.step.ensures.ctx; goes = c.in_default.ensures.does; led = c.step.ensures.led } in
    let is = swept_in c.in-Ok.ops.items c.world.result.now.ctx c.args.bench.now.transaction.ctx c.world.result.now.store c.args.bench.now.transaction.store c.world.ensures.ctx c.world.ensures.store c.in-Ok.ensures.ok in
    refused_for c.in-Ok.ops.items c.in-Err-erase_each.refusal c.args.bench.now.transaction c.step.new.self.transaction c.erase_each.new.bench.transaction c.is_wellformed.ensures.wellformed.distinct is (begun_held g.L.Analysis.meaning c.args.bench.now c.step.new.self begun) c.in-Err-erase_each.ensures.erases

pub returns-in-Err-clause-journal : goal.returns-in-Err-clause-journal
returns-in-Err-clause-journal g c = recorded_none c.args.bench.now.transaction

pub returns-in-Err-step-clause-journal : goal.returns-in-Err-step-clause-journal
returns-in-Err-step-clause-journal g c = keeps_left g.L.Analysis.meaning c.args.bench.now c.step.new.self c.in-Err-step.ensures.err

pub returns-in-Ok-erase_each-clause-journal : goal.returns-in-Ok-erase_each-clause-journal
returns-in-Ok-erase_each-clause-journal g c =
    swept_journaled g.L.Analysis.meaning c.led_benches_are_kept.ensures.more (reverse c.in-Ok.ops.items) c.args.bench.now c.step.new.self c.erase_each.new.bench c.close_mark.new.bench c.is_wellformed.ensures.context.holds c.is_wellformed.ensures.none
    c.in_default.ensures.ok c.step.ensures.untold c.in-Ok-erase_each.ensures.erases c.in-Ok-erase_each.ensures.journal c.close_mark.ensures.finished (c.close_mark.ensures.untold refl)

pub returns-clause-journal : goal.returns-clause-journal
returns-clause-journal g c =
    swept_back c.args.bench.now.transaction c.step.new.self.transaction c.erase_each.new.bench.transaction c.close_mark-in-Err-erase_each.new.bench.transaction c.is_wellformed.ensures.none c.in_default.ensures.ok c.in-Err-erase_each.ensures.noted c.close_mark-in-Err-erase_each.ensures.finished
