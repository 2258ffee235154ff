use Rattle.std.proofs.Common.{◌≡◌, ◌∙◌, sym, ap, subst, refl, true, false, None, Some, []}
use Rattle.ir_event.specs.store.Stored.{Stored}
use Rattle.ir_event.specs.trees.Tree.{head}
use Rattle.rewriter_machine.specs.Inserting.{insert_fault}
use Rattle.rewriter.specs.Edits.{Insert}
use Rattle.rewriter.proofs.Noted.{keeps_left, recorded_none}
use Rattle.rewriter.proofs.Together.{undone_recorded, whole_journaled, IsBegun, goes_refused, led_whole}
use Rattle.rewriter.proofs.Whole.{fault_reason, begun_fault, insert_done, insert_undone}
use Rattle.rewriter.proofs.bench.Bench.insert.Goals as goal

pub returns-in-Some-clause-does : goal.returns-in-Some-clause-does
returns-in-Some-clause-does g c =
    let b = c.args.self.now in
    let fault : insert_fault c.args.place c.args.tree.now b.transaction.store.module_of.next b.transaction.store.module_of.tree ≡ Some c.in-Some.refusal =
    subst (λ (s : Stored). insert_fault c.args.place c.args.tree.now s.module_of.next s.module_of.tree ≡ Some c.in-Some.refusal) c.world.ensures.store (sym c.insert_fault.ensures ∙ c.in-Some.is) in
    goes_refused g.L.Analysis.meaning c.led_benches_are_kept.ensures.ages c.led_benches_are_kept.ensures.none (Insert c.args.place c.args.tree.now) c.in-Some.refusal b
    (fault_reason c.inserts_are_tried.ensures.split b.transaction.ctx c.args.place c.args.tree.now c.in-Some.refusal b.transaction.store.module_of.next b.transaction.store.module_of.tree fault)

pub returns-in-Some-clause-led : goal.returns-in-Some-clause-led
returns-in-Some-clause-led g c = ([], c.led_benches_are_kept.ensures.none c.args.self.now)

pub make_all-requires-clause-free : goal.make_all-requires-clause-free
make_all-requires-clause-free g c =
    let b = c.args.self.now in
    let begun : IsBegun g.L.Analysis.meaning b c.step.new.self = record { ctx = c.step.ensures.ctx; goes = c.in_default-step.ensures.does; led = c.step.ensures.led } in
    let none : insert_fault c.args.place c.args.tree.now b.transaction.store.module_of.next b.transaction.store.module_of.tree ≡ None =
    subst (λ (s : Stored). insert_fault c.args.place c.args.tree.now s.module_of.next s.module_of.tree ≡ None) c.world.ensures.store (sym c.insert_fault.ensures ∙ c.in_default.is) in
    begun_fault g.L.Analysis.meaning c.inserts_are_tried.ensures.split c.args.place c.args.tree.now b c.step.new.self begun none

pub returns-in-Ok-clause-does : goal.returns-in-Ok-clause-does
returns-in-Ok-clause-does g c =
    let meaning = g.L.Analysis.meaning in
    let begun : IsBegun meaning c.args.self.now c.step.new.self = record { ctx = c.step.ensures.ctx; goes = c.in_default-step.ensures.does; led = c.step.ensures.led } in
    insert_done meaning c.led_benches_are_kept.ensures.ages c.led_benches_are_kept.ensures.more c.args.place c.args.tree.now c.tree.inside.id c.args.self.now c.step.new.self c.make_all.new.bench c.close_mark.new.bench c.is_wellformed.ensures.context.holds
    (ap (λ o. (head o).id) (sym c.tree.view_is)) begun c.make_all.ensures.onward c.in-Ok.ensures.answered c.in-Ok.ensures.ok c.close_mark.ensures.finished
    (led_whole meaning c.led_benches_are_kept.ensures.more true c.args.self.now c.step.new.self c.make_all.new.bench c.close_mark.new.bench c.is_wellformed.ensures.context.holds begun c.make_all.ensures.onward c.close_mark.ensures.finished c.close_mark.ensures.led)

pub returns-in-Ok-clause-led : goal.returns-in-Ok-clause-led
returns-in-Ok-clause-led g c =
    let begun : IsBegun g.L.Analysis.meaning c.args.self.now c.step.new.self = record { ctx = c.step.ensures.ctx; goes = c.in_default-step.ensures.does; led = c.step.ensures.led } in
    led_whole g.L.Analysis.meaning c.led_benches_are_kept.ensures.more true c.args.self.now c.step.new.self c.make_all.new.bench c.close_mark.new.bench c.is_wellformed.ensures.context.holds begun c.make_all.ensures.onward c.close_mark.ensures.finished c.close_mark.ensures.led

pub returns-in-Err-make_all-clause-does : goal.returns-in-Err-make_all-clause-does
returns-in-Err-make_all-clause-does g c =
    let meaning = g.L.Analysis.meaning in
    let begun : IsBegun meaning c.args.self.now c.step.new.self = record { ctx = c.step.ensures.ctx; goes = c.in_default-step.ensures.does; led = c.step.ensures.led } in
    insert_undone meaning c.led_benches_are_kept.ensures.ages c.args.place c.args.tree.now c.in-Err-make_all.refusal c.args.self.now c.step.new.self c.make_all.new.bench c.close_mark-in-Err-make_all.new.bench begun c.make_all.ensures.onward c.in-Err-make_all.ensures.answered c.close_mark-in-Err-make_all.ensures.finished
    (led_whole meaning c.led_benches_are_kept.ensures.more false c.args.self.now c.step.new.self c.make_all.new.bench c.close_mark-in-Err-make_all.new.bench c.is_wellformed.ensures.context.holds begun c.make_all.ensures.onward c.close_mark-in-Err-make_all.ensures.finished c.close_mark-in-Err-make_all.ensures.led)

pub returns-in-Err-make_all-clause-led : goal.returns-in-Err-make_all-clause-led
returns-in-Err-make_all-clause-led g c =
    let begun : IsBegun g.L.Analysis.meaning c.args.self.now c.step.new.self = record { ctx = c.step.ensures.ctx; goes = c.in_default-step.ensures.does; led = c.step.ensures.led } in
    led_whole g.L.Analysis.meaning c.led_benches_are_kept.ensures.more false c.args.self.now c.step.new.self c.make_all.new.bench c.close_mark-in-Err-make_all.new.bench c.is_wellformed.ensures.context.holds begun c.make_all.ensures.onward c.close_mark-in-Err-make_all.ensures.finished c.close_mark-in-Err-make_all.ensures.led

pub returns-in-Some-clause-journal : goal.returns-in-Some-clause-journal
returns-in-Some-clause-journal g c = recorded_none c.args.self.now.transaction

pub returns-in-Err-clause-journal : goal.returns-in-Err-clause-journal
returns-in-Err-clause-journal g c = keeps_left g.L.Analysis.meaning c.args.self.now c.step.new.self c.in-Err.ensures.err

pub returns-in-Ok-clause-journal : goal.returns-in-Ok-clause-journal
returns-in-Ok-clause-journal g c =
    whole_journaled g.L.Analysis.meaning c.led_benches_are_kept.ensures.more c.args.self.now c.step.new.self c.make_all.new.bench c.close_mark.new.bench c.is_wellformed.ensures.context.holds c.is_wellformed.ensures.none c.in_default-step.ensures.ok c.step.ensures.untold c.make_all.ensures.onward
    c.close_mark.ensures.finished (c.close_mark.ensures.untold refl)

pub returns-in-Err-make_all-clause-journal : goal.returns-in-Err-make_all-clause-journal
returns-in-Err-make_all-clause-journal g c = undone_recorded g.L.Analysis.meaning c.args.self.now c.step.new.self c.make_all.new.bench c.close_mark-in-Err-make_all.new.bench c.is_wellformed.ensures.none c.in_default-step.ensures.ok c.make_all.ensures.onward c.close_mark-in-Err-make_all.ensures.finished
