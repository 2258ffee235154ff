use Rattle.std.proofs.Common.{◌≡◌, ◌∙◌, sym, subst, refl, true, false, None, Some, []}
use Rattle.rewriter.specs.Contents.{edit_meaning, tests_in}
use Rattle.rewriter.specs.Edits.{Erase, reason_by}
use Rattle.rewriter.specs.Machine.{Do, Goes, Refused, Nothing}
use Rattle.rewriter.specs.RewriterCalls.{Benched, state_of}
use Rattle.rewriter.proofs.Calls.{unstepped}
use Rattle.rewriter.proofs.Noted.{keeps_left, recorded_none}
use Rattle.rewriter.proofs.Together.{plain_keeps, undone_recorded, whole_journaled, IsBegun, begun_free, goes_plain, goes_whole, goes_undone, goes_unbegun, led_whole}
use Rattle.rewriter.proofs.bench.Bench.erase_inside.Goals as goal

pub returns-then-not-is_marked-clause-does : goal.returns-then-not-is_marked-clause-does
returns-then-not-is_marked-clause-does g c =
    goes_plain g.L.Analysis.meaning c.led_benches_are_kept.ensures.ages (Erase c.args.op) c.args.self.now c.take_all.new.bench c.take_all.result c.is_marked.result refl c.requires c.is_marked.ensures c.if-not-is_marked.true c.take_all.ensures.onward c.take_all.ensures.ok c.take_all.ensures.refused

pub returns-in-Err-clause-does : goal.returns-in-Err-clause-does
returns-in-Err-clause-does g c =
    subst (λ (b : Benched g.row.L.Denot). Goes (state_of g.L.Analysis.meaning c.args.self.now) (Do (edit_meaning c.args.self.now.transaction.ctx (Erase c.args.op))) (Refused c.in-Err.refusal) Nothing (state_of g.L.Analysis.meaning b)) (sym c.in-Err.ensures.err)
    (goes_unbegun g.L.Analysis.meaning c.led_benches_are_kept.ensures.ages c.led_benches_are_kept.ensures.none (Erase c.args.op) c.in-Err.refusal c.args.self.now (c.is_marked.ensures.0 c.if-not-is_marked.false) (unstepped (state_of g.L.Analysis.meaning c.args.self.now) (state_of g.L.Analysis.meaning c.step.new.self) c.in-Err.refusal c.in-Err.ensures.does))

pub take_all-requires-2 : goal.take_all-requires-2
take_all-requires-2 g c =
    let begun : IsBegun g.L.Analysis.meaning c.args.self.now c.step.new.self = record { ctx = c.step.ensures.ctx; goes = c.in_default.ensures.does; led = c.step.ensures.led } in
    begun_free g.L.Analysis.meaning (Erase c.args.op) c.args.self.now c.step.new.self begun c.requires

pub returns-in-Ok-clause-does : goal.returns-in-Ok-clause-does
returns-in-Ok-clause-does g c =
    let begun : IsBegun g.L.Analysis.meaning c.args.self.now c.step.new.self = record { ctx = c.step.ensures.ctx; goes = c.in_default.ensures.does; led = c.step.ensures.led } in
    goes_whole g.L.Analysis.meaning c.led_benches_are_kept.ensures.ages c.led_benches_are_kept.ensures.more (Erase c.args.op) c.args.self.now c.step.new.self c.take_all-2.new.bench c.close_mark.new.bench c.is_wellformed.ensures.context.holds c.requires begun c.take_all-2.ensures.onward c.in-Ok.ensures.ok c.close_mark.ensures.finished
    (led_whole g.L.Analysis.meaning c.led_benches_are_kept.ensures.more true c.args.self.now c.step.new.self c.take_all-2.new.bench c.close_mark.new.bench c.is_wellformed.ensures.context.holds begun c.take_all-2.ensures.onward c.close_mark.ensures.finished c.close_mark.ensures.led)

pub returns-in-Ok-clause-led : goal.returns-in-Ok-clause-led
returns-in-Ok-clause-led g c =
    let begun : IsBegun g.L.Analysis.meaning c.args.self.now c.step.new.self = record { ctx = c.step.ensures.ctx; goes = c.in_default.ensures.does; led = c.step.ensures.led } in
    led_whole g.L.Analysis.meaning c.led_benches_are_kept.ensures.more true c.args.self.now c.step.new.self c.take_all-2.new.bench c.close_mark.new.bench c.is_wellformed.ensures.context.holds begun c.take_all-2.ensures.onward c.close_mark.ensures.finished c.close_mark.ensures.led

pub returns-in-Err-take_all-clause-does : goal.returns-in-Err-take_all-clause-does
returns-in-Err-take_all-clause-does g c =
    let begun : IsBegun g.L.Analysis.meaning c.args.self.now c.step.new.self = record { ctx = c.step.ensures.ctx; goes = c.in_default.ensures.does; led = c.step.ensures.led } in
    goes_undone g.L.Analysis.meaning c.led_benches_are_kept.ensures.ages (Erase c.args.op) c.in-Err-take_all.refusal c.args.self.now c.step.new.self c.take_all-2.new.bench c.close_mark-in-Err-take_all.new.bench c.in-Err-take_all.ensures.refused.0 (c.is_marked.ensures.0 c.if-not-is_marked.false) begun c.take_all-2.ensures.onward c.close_mark-in-Err-take_all.ensures.finished
    (led_whole g.L.Analysis.meaning c.led_benches_are_kept.ensures.more false c.args.self.now c.step.new.self c.take_all-2.new.bench c.close_mark-in-Err-take_all.new.bench c.is_wellformed.ensures.context.holds begun c.take_all-2.ensures.onward c.close_mark-in-Err-take_all.ensures.finished c.close_mark-in-Err-take_all.ensures.led)

pub returns-in-Err-take_all-clause-led : goal.returns-in-Err-take_all-clause-led
returns-in-Err-take_all-clause-led g c =
    let begun : IsBegun g.L.Analysis.meaning c.args.self.now c.step.new.self = record { ctx = c.step.ensures.ctx; goes = c.in_default.ensures.does; led = c.step.ensures.led } in
    led_whole g.L.Analysis.meaning c.led_benches_are_kept.ensures.more false c.args.self.now c.step.new.self c.take_all-2.new.bench c.close_mark-in-Err-take_all.new.bench c.is_wellformed.ensures.context.holds begun c.take_all-2.ensures.onward c.close_mark-in-Err-take_all.ensures.finished c.close_mark-in-Err-take_all.ensures.led

pub returns-in-Err-clause-journal : goal.returns-in-Err-clause-journal
returns-in-Err-clause-journal g c = keeps_left g.L.Analysis.meaning c.args.self.now c.step.new.self c.in-Err.ensures.err

pub returns-in-Ok-clause-journal : goal.returns-in-Ok-clause-journal
returns-in-Ok-clause-journal g c =
    whole_journaled g.L.Analysis.meaning c.led_benches_are_kept.ensures.more c.args.self.now c.step.new.self c.take_all-2.new.bench c.close_mark.new.bench c.is_wellformed.ensures.context.holds c.is_wellformed.ensures.none c.in_default.ensures.ok c.step.ensures.untold c.take_all-2.ensures.onward
    c.close_mark.ensures.finished (c.close_mark.ensures.untold refl)

pub returns-in-Err-take_all-clause-journal : goal.returns-in-Err-take_all-clause-journal
returns-in-Err-take_all-clause-journal g c = undone_recorded g.L.Analysis.meaning c.args.self.now c.step.new.self c.take_all-2.new.bench c.close_mark-in-Err-take_all.new.bench c.is_wellformed.ensures.none c.in_default.ensures.ok c.take_all-2.ensures.onward c.close_mark-in-Err-take_all.ensures.finished

pub returns-then-not-is_marked-clause-journal : goal.returns-then-not-is_marked-clause-journal
returns-then-not-is_marked-clause-journal g c = plain_keeps g.L.Analysis.meaning c.args.self.now c.take_all.new.bench c.take_all.result c.is_marked.result c.is_marked.ensures c.if-not-is_marked.true c.take_all.ensures.onward c.take_all.ensures.refused
