use Rattle.std.proofs.Common.{subst, List}
use Rattle.ir_event.proofs.of_types.Truths.{none_left, uncons}
use Rattle.rewriter.specs.Held.{module_held}
use Rattle.patterns_soundness.specs.base.declared.edit.Edit.{Edit as Coded}
use Rattle.patterns_soundness.specs.base.Lists.{Free, edits_meaning}
use Rattle.patterns_lowering.proofs.Carrying.{Carrying, along_on, carrying_done, carrying_more, carrying_none, carrying_why, fits_next, noted_refused}
use Rattle.patterns_lowering.proofs.Freely.{free_more}
use Rattle.patterns_lowering.proofs.apply_unchecked.carry_all.Goals as goal

pub edits-init : goal.edits-init
edits-init g c = record { carrying = carrying_none g.L.Analysis.meaning c.led_benches_are_kept.ensures.none c.args.edits.now c.args.bench.now c.requires.fits_in; free = c.requires.free }

pub carry_unchecked-requires-clause-fits : goal.carry_unchecked-requires-clause-fits
carry_unchecked-requires-clause-fits g c =
    let u = uncons c.edits.rest.now c.edit-item.result _ c.in-len1-up.len_at_least c.edit-item.is in
    fits_next g.L.Analysis.meaning c.args.edits.now _ c.edit-item.result c.args.bench.now c.edits.bench
    (subst (λ (z : List Coded). Carrying g.L.Analysis.meaning c.args.edits.now z c.args.bench.now c.edits.bench) u c.edits.invariant.carrying)

pub carry_unchecked-requires-clause-free : goal.carry_unchecked-requires-clause-free
carry_unchecked-requires-clause-free g c =
    let u = uncons c.edits.rest.now c.edit-item.result _ c.in-len1-up.len_at_least c.edit-item.is in
    (subst (λ (z : List Coded). Free (edits_meaning c.edits.bench.transaction.ctx z) (module_held c.edits.bench.transaction)) u c.edits.invariant.free).0

pub returns-in-Err-clause-along : goal.returns-in-Err-clause-along
returns-in-Err-clause-along g c =
    along_on g.L.Analysis.meaning c.led_benches_are_kept.ensures.more c.args.bench.now c.edits.bench c.carry_unchecked.new.bench c.is_wellformed.ensures.context.holds c.edits.invariant.carrying.along c.in-Err.ensures.along

pub returns-in-Err-clause-refused : goal.returns-in-Err-clause-refused
returns-in-Err-clause-refused g c =
    let u = uncons c.edits.rest.now c.edit-item.result _ c.in-len1-up.len_at_least c.edit-item.is in
    carrying_why g.L.Analysis.meaning c.args.edits.now _ c.edit-item.result c.in-Err.refusal c.args.bench.now c.edits.bench c.carry_unchecked.new.bench
    (subst (λ (z : List Coded). Carrying g.L.Analysis.meaning c.args.edits.now z c.args.bench.now c.edits.bench) u c.edits.invariant.carrying) c.in-Err.ensures.attempted

pub edits-preserved : goal.edits-preserved
edits-preserved g c =
    let u = uncons c.edits.rest.now c.edit-item.result _ c.in-len1-up.len_at_least c.edit-item.is in
    record {
      carrying =
          carrying_more g.L.Analysis.meaning c.led_benches_are_kept.ensures.more c.args.edits.now _ c.edit-item.result c.args.bench.now c.edits.bench c.carry_unchecked.new.bench c.is_wellformed.ensures.context.holds
          (subst (λ (z : List Coded). Carrying g.L.Analysis.meaning c.args.edits.now z c.args.bench.now c.edits.bench) u c.edits.invariant.carrying) c.in_default-carry_unchecked.ensures.attempted c.in_default-carry_unchecked.ensures.along c.in_default-carry_unchecked.ensures.journal;
      free =
          free_more g.L.Analysis.meaning _ c.edit-item.result c.edits.bench c.carry_unchecked.new.bench
          (subst (λ (z : List Coded). Free (edits_meaning c.edits.bench.transaction.ctx z) (module_held c.edits.bench.transaction)) u c.edits.invariant.free) c.in_default-carry_unchecked.ensures.attempted c.in_default-carry_unchecked.ensures.along;
    }

pub returns-clause-ok : goal.returns-clause-ok
returns-clause-ok g c = carrying_done g.L.Analysis.meaning c.args.edits.now c.args.bench.now c.edits.bench (subst (λ (z : List Coded). Carrying g.L.Analysis.meaning c.args.edits.now z c.args.bench.now c.edits.bench) (none_left c.edits.rest.now c.in_default.len_below) c.edits.invariant.carrying)

pub returns-clause-along : goal.returns-clause-along
returns-clause-along g c = c.edits.invariant.carrying.along

pub returns-clause-journal : goal.returns-clause-journal
returns-clause-journal g c = c.edits.invariant.carrying.noted

pub returns-in-Err-clause-noted : goal.returns-in-Err-clause-noted
returns-in-Err-clause-noted g c = noted_refused g.L.Analysis.meaning c.args.bench.now c.edits.bench c.carry_unchecked.new.bench c.edits.invariant.carrying.along c.edits.invariant.carrying.noted c.in-Err.ensures.journal
