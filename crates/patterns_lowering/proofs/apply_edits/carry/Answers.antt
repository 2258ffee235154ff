use Rattle.std.proofs.Common.{subst, List}
use Rattle.patterns_soundness.specs.base.declared.edit.Edit.{Edit as Coded}
use Rattle.patterns_lowering.proofs.Carrying.{Carrying, along_on, carrying_none, carrying_more, carrying_done, noted_refused}
use Rattle.patterns_lowering.proofs.apply_edits.carry.Goals as goal
use Rattle.ir_event.proofs.of_types.Truths.{none_left, uncons}

pub edits-init : goal.edits-init
edits-init g c = carrying_none g.L.Analysis.meaning c.led_benches_are_kept.ensures.none c.args.edits.now c.args.bench.now c.requires.fits_in

pub returns-in-Err-clause-along : goal.returns-in-Err-clause-along
returns-in-Err-clause-along g c =
    along_on g.L.Analysis.meaning c.led_benches_are_kept.ensures.more c.args.bench.now c.edits.bench c.carry_one.new.bench c.is_wellformed.ensures.context.holds c.edits.invariant.along c.in-Err.ensures.along

pub edits-preserved : goal.edits-preserved
edits-preserved g c =
    let u = uncons c.edits.rest.now c.edit-item.result _ c.in-len1-up.len_at_least c.edit-item.is in
    carrying_more g.L.Analysis.meaning c.led_benches_are_kept.ensures.more c.args.edits.now _ c.edit-item.result c.args.bench.now c.edits.bench c.carry_one.new.bench c.is_wellformed.ensures.context.holds
    (subst (λ (z : List Coded). Carrying g.L.Analysis.meaning c.args.edits.now z c.args.bench.now c.edits.bench) u c.edits.invariant) c.in_default-carry_one.ensures.attempted c.in_default-carry_one.ensures.along c.in_default-carry_one.ensures.journal

pub returns-clause-ok : goal.returns-clause-ok
returns-clause-ok g c = carrying_done g.L.Analysis.meaning c.args.edits.now c.args.bench.now c.edits.bench (subst (λ (z : List Coded). Carrying g.L.Analysis.meaning c.args.edits.now z c.args.bench.now c.edits.bench) (none_left c.edits.rest.now c.in_default.len_below) c.edits.invariant)

pub returns-in-Err-clause-noted : goal.returns-in-Err-clause-noted
returns-in-Err-clause-noted g c = noted_refused g.L.Analysis.meaning c.args.bench.now c.edits.bench c.carry_one.new.bench c.edits.invariant.along c.edits.invariant.noted c.in-Err.ensures.journal
