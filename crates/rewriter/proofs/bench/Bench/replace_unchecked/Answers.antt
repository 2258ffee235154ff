use Rattle.std.proofs.Common.{◌≡◌, ◌≢◌, ◌∙◌, sym, ap, subst, refl, true, false, None, Some, []}
use Rattle.ir_event.specs.trees.Uses.{same_value}
use Rattle.rewriter.specs.Contents.{edit_meaning, tests_in}
use Rattle.rewriter.specs.Edits.{Replace, Erase, reason_by}
use Rattle.rewriter.specs.Machine.{Do, Goes, Refused, Nothing}
use Rattle.rewriter.specs.RewriterCalls.{Benched, state_of}
use Rattle.rewriter.proofs.Calls.{unstepped}
use Rattle.rewriter.proofs.Noted.{keeps_left, recorded_none}
use Rattle.rewriter.proofs.Together.{plain_keeps, undone_recorded, whole_journaled, IsBegun, begun_free, goes_made, goes_plain, goes_whole, goes_undone, goes_unbegun, led_whole}
use Rattle.rewriter.proofs.bench.Bench.replace_unchecked.Goals as goal

pub returns-then-is_same-clause-does : goal.returns-then-is_same-clause-does
returns-then-is_same-clause-does g c =
    let same : same_value c.args.old c.args.new ≡ true = sym c.is_same.ensures ∙ c.if-is_same.true in
    goes_made g.L.Analysis.meaning c.led_benches_are_kept.ensures.ages (Replace c.args.old c.args.new) c.args.self.now c.args.self.now c.requires (sym (c.replacing_by_uses.ensures.equal (tests_in c.args.self.now.transaction.ctx) c.args.old c.args.new c.args.self.now.transaction.store.module_of same)) refl refl ([], c.led_benches_are_kept.ensures.none c.args.self.now)

pub returns-then-is_same-clause-led : goal.returns-then-is_same-clause-led
returns-then-is_same-clause-led g c =
    ([], c.led_benches_are_kept.ensures.none c.args.self.now)

pub returns-then-not-is_marked-clause-does : goal.returns-then-not-is_marked-clause-does
returns-then-not-is_marked-clause-does g c =
    goes_plain g.L.Analysis.meaning c.led_benches_are_kept.ensures.ages (Replace c.args.old c.args.new) c.args.self.now c.set_uses.new.bench c.set_uses.result c.is_marked.result refl c.requires c.is_marked.ensures c.if-not-is_marked.true c.set_uses.ensures.onward c.set_uses.ensures.ok c.set_uses.ensures.refused

pub returns-in-Err-clause-does : goal.returns-in-Err-clause-does
returns-in-Err-clause-does g c =
    subst (λ (b : Benched g.row.L.Denot). Goes (state_of g.L.Analysis.meaning c.args.self.now) (Do (edit_meaning c.args.self.now.transaction.ctx (Replace c.args.old c.args.new))) (Refused c.in-Err.refusal) Nothing (state_of g.L.Analysis.meaning b)) (sym c.in-Err.ensures.err)
    (goes_unbegun g.L.Analysis.meaning c.led_benches_are_kept.ensures.ages c.led_benches_are_kept.ensures.none (Replace c.args.old c.args.new) c.in-Err.refusal c.args.self.now (c.is_marked.ensures.0 c.if-not-is_marked.false) (unstepped (state_of g.L.Analysis.meaning c.args.self.now) (state_of g.L.Analysis.meaning c.step.new.self) c.in-Err.refusal c.in-Err.ensures.does))

pub set_uses-requires-2-clause-free : goal.set_uses-requires-2-clause-free
set_uses-requires-2-clause-free g c =
    let begun : IsBegun g.L.Analysis.meaning c.args.self.now c.step.new.self = record { ctx = c.step.ensures.ctx; goes = c.in_default.ensures.does; led = c.step.ensures.led } in
    begun_free g.L.Analysis.meaning (Replace c.args.old c.args.new) c.args.self.now c.step.new.self begun c.requires

pub returns-in-Ok-clause-does : goal.returns-in-Ok-clause-does
returns-in-Ok-clause-does g c =
    let begun : IsBegun g.L.Analysis.meaning c.args.self.now c.step.new.self = record { ctx = c.step.ensures.ctx; goes = c.in_default.ensures.does; led = c.step.ensures.led } in
    goes_whole g.L.Analysis.meaning c.led_benches_are_kept.ensures.ages c.led_benches_are_kept.ensures.more (Replace c.args.old c.args.new) c.args.self.now c.step.new.self c.set_uses-2.new.bench c.close_mark.new.bench c.is_wellformed.ensures.context.holds c.requires begun c.set_uses-2.ensures.onward c.in-Ok.ensures.ok c.close_mark.ensures.finished
    (led_whole g.L.Analysis.meaning c.led_benches_are_kept.ensures.more true c.args.self.now c.step.new.self c.set_uses-2.new.bench c.close_mark.new.bench c.is_wellformed.ensures.context.holds begun c.set_uses-2.ensures.onward c.close_mark.ensures.finished c.close_mark.ensures.led)

pub returns-in-Ok-clause-led : goal.returns-in-Ok-clause-led
returns-in-Ok-clause-led g c =
    let begun : IsBegun g.L.Analysis.meaning c.args.self.now c.step.new.self = record { ctx = c.step.ensures.ctx; goes = c.in_default.ensures.does; led = c.step.ensures.led } in
    led_whole g.L.Analysis.meaning c.led_benches_are_kept.ensures.more true c.args.self.now c.step.new.self c.set_uses-2.new.bench c.close_mark.new.bench c.is_wellformed.ensures.context.holds begun c.set_uses-2.ensures.onward c.close_mark.ensures.finished c.close_mark.ensures.led

pub returns-in-Err-set_uses-clause-does : goal.returns-in-Err-set_uses-clause-does
returns-in-Err-set_uses-clause-does g c =
    let begun : IsBegun g.L.Analysis.meaning c.args.self.now c.step.new.self = record { ctx = c.step.ensures.ctx; goes = c.in_default.ensures.does; led = c.step.ensures.led } in
    goes_undone g.L.Analysis.meaning c.led_benches_are_kept.ensures.ages (Replace c.args.old c.args.new) c.in-Err-set_uses.refusal c.args.self.now c.step.new.self c.set_uses-2.new.bench c.close_mark-in-Err-set_uses.new.bench c.in-Err-set_uses.ensures.refused.0 (c.is_marked.ensures.0 c.if-not-is_marked.false) begun c.set_uses-2.ensures.onward c.close_mark-in-Err-set_uses.ensures.finished
    (led_whole g.L.Analysis.meaning c.led_benches_are_kept.ensures.more false c.args.self.now c.step.new.self c.set_uses-2.new.bench c.close_mark-in-Err-set_uses.new.bench c.is_wellformed.ensures.context.holds begun c.set_uses-2.ensures.onward c.close_mark-in-Err-set_uses.ensures.finished c.close_mark-in-Err-set_uses.ensures.led)

pub returns-in-Err-set_uses-clause-led : goal.returns-in-Err-set_uses-clause-led
returns-in-Err-set_uses-clause-led g c =
    let begun : IsBegun g.L.Analysis.meaning c.args.self.now c.step.new.self = record { ctx = c.step.ensures.ctx; goes = c.in_default.ensures.does; led = c.step.ensures.led } in
    led_whole g.L.Analysis.meaning c.led_benches_are_kept.ensures.more false c.args.self.now c.step.new.self c.set_uses-2.new.bench c.close_mark-in-Err-set_uses.new.bench c.is_wellformed.ensures.context.holds begun c.set_uses-2.ensures.onward c.close_mark-in-Err-set_uses.ensures.finished c.close_mark-in-Err-set_uses.ensures.led

pub returns-in-Err-clause-journal : goal.returns-in-Err-clause-journal
returns-in-Err-clause-journal g c = keeps_left g.L.Analysis.meaning c.args.self.now c.step.new.self c.in-Err.ensures.err

pub returns-in-Ok-clause-journal : goal.returns-in-Ok-clause-journal
returns-in-Ok-clause-journal g c =
    whole_journaled g.L.Analysis.meaning c.led_benches_are_kept.ensures.more c.args.self.now c.step.new.self c.set_uses-2.new.bench c.close_mark.new.bench c.is_wellformed.ensures.context.holds c.is_wellformed.ensures.none c.in_default.ensures.ok c.step.ensures.untold c.set_uses-2.ensures.onward
    c.close_mark.ensures.finished (c.close_mark.ensures.untold refl)

pub returns-in-Err-set_uses-clause-journal : goal.returns-in-Err-set_uses-clause-journal
returns-in-Err-set_uses-clause-journal g c = undone_recorded g.L.Analysis.meaning c.args.self.now c.step.new.self c.set_uses-2.new.bench c.close_mark-in-Err-set_uses.new.bench c.is_wellformed.ensures.none c.in_default.ensures.ok c.set_uses-2.ensures.onward c.close_mark-in-Err-set_uses.ensures.finished

pub returns-then-not-is_marked-clause-journal : goal.returns-then-not-is_marked-clause-journal
returns-then-not-is_marked-clause-journal g c = plain_keeps g.L.Analysis.meaning c.args.self.now c.set_uses.new.bench c.set_uses.result c.is_marked.result c.is_marked.ensures c.if-not-is_marked.true c.set_uses.ensures.onward c.set_uses.ensures.refused

pub returns-then-is_same-clause-journal : goal.returns-then-is_same-clause-journal
returns-then-is_same-clause-journal g c = ([], c.led_benches_are_kept.ensures.none c.args.self.now, recorded_none c.args.self.now.transaction)
