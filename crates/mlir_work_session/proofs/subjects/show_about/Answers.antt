use Rattle.std.proofs.Common.{◌≡◌, ◌⊎◌, true, false, rules, sym}
use Rattle.mlir_work_transforms.specs.rewriter.Held.{module_held}
use Rattle.ir_event.specs.Modules.{module_in}
use Rattle.ir_event.specs.Panels.{is_kind as has_this_kind}
use Rattle.ir_event.specs.Subjects.{is_there}
use Rattle.mlir_work_session.proofs.About.{about_none, about_rows, about_stale, about_unheld, rows_held, there_held}
use Rattle.mlir_work_session.proofs.Fulfilling.{fulfils_no_subject}
use Rattle.mlir_work_session.proofs.Panels.{find_has}
use Rattle.mlir_work_session.proofs.Reading.{held_agrees}
use Rattle.mlir_work_session.proofs.subjects.show_about.Goals as goal

pub returns-then-not-is_there : goal.returns-then-not-is_there
returns-then-not-is_there g c setting =
    let h = c.args.bench.now.transaction in
    let w = c.world-world.result.now in
    let gone : is_there c.args.subject.now (module_in w).tree ≡ false = search rules in
    rw (c.reply_only.ensures.reply, c.reply_only.ensures.shows, c.absent.ensures) (fulfils_no_subject setting c.args.kind c.args.subject.now _ (there_held h w c.world-world.ensures.ctx c.world-world.ensures.store c.args.subject.now false gone))

pub text_about-requires : goal.text_about-requires
text_about-requires g c =
    let meaning = g.L.Analysis.meaning in
    let h = c.args.bench.now.transaction in
    held_agrees meaning h c.world-world.result.now c.world-world.ensures.ctx c.world-world.ensures.store c.in-Some.listener.now
    (find_has meaning (λ b. (meaning b).agrees h.ctx (module_held h) ⊎ ((meaning b).stale ≡ true)) (has_this_kind meaning c.args.kind) c.args.bench.now.listeners c.in-Some.listener.now c.requires (sym c.in-Some.ensures))

pub returns-in_default : goal.returns-in_default
returns-in_default g c setting =
    let h = c.args.bench.now.transaction in
    let w = c.world-world.result.now in
    let there : is_there c.args.subject.now (module_in w).tree ≡ true = search rules in
    rw (c.reply_only-in_default.ensures.reply, c.reply_only-in_default.ensures.shows)
    (about_none g.L.Analysis.meaning setting c.args.kind c.args.subject.now c.args.bench.now (there_held h w c.world-world.ensures.ctx c.world-world.ensures.store c.args.subject.now true there) c.in_default.ensures)

pub returns-in-Err-Stale : goal.returns-in-Err-Stale
returns-in-Err-Stale g c setting =
    let h = c.args.bench.now.transaction in
    let w = c.world-world.result.now in
    let there : is_there c.args.subject.now (module_in w).tree ≡ true = search rules in
    rw (c.reply_only-in-Err-Stale.ensures.reply, c.reply_only-in-Err-Stale.ensures.shows)
    (about_stale g.L.Analysis.meaning setting c.args.kind c.args.subject.now c.args.bench.now (there_held h w c.world-world.ensures.ctx c.world-world.ensures.store c.args.subject.now true there) c.in-Some.listener.now c.in-Some.ensures (c.in-Err-Stale.ensures.stale c.in-Err-Stale.field-0-is))

pub returns-in-Err-Memory : goal.returns-in-Err-Memory
returns-in-Err-Memory g c setting =
    let h = c.args.bench.now.transaction in
    let w = c.world-world.result.now in
    let there : is_there c.args.subject.now (module_in w).tree ≡ true = search rules in
    rw (c.reply_only-in-Err-Memory.ensures.reply, c.reply_only-in-Err-Memory.ensures.shows)
    (about_unheld g.L.Analysis.meaning setting c.args.kind c.args.subject.now c.args.bench.now (there_held h w c.world-world.ensures.ctx c.world-world.ensures.store c.args.subject.now true there))

pub returns : goal.returns
returns g c setting =
    let h = c.args.bench.now.transaction in
    let w = c.world-world.result.now in
    let there : is_there c.args.subject.now (module_in w).tree ≡ true = search rules in
    about_rows g.L.Analysis.meaning setting c.args.kind c.args.subject.now c.args.bench.now (there_held h w c.world-world.ensures.ctx c.world-world.ensures.store c.args.subject.now true there) c.in-Some.listener.now c.in-Ok.shows.items c.in-Some.ensures c.in-Ok.ensures.fresh
    (rows_held h w c.world-world.ensures.ctx c.world-world.ensures.store c.args.subject.now (g.L.Analysis.meaning c.in-Some.listener.now) _ c.in-Ok.ensures.text)
