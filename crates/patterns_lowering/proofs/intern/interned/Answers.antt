use Rattle.std.proofs.Common.{subst, sym}
use Rattle.ir_event.specs.trees.Tree.{Op, head}
use Rattle.ir_event.proofs.of_trees.Meanings.{stays_sound}
use Rattle.patterns_lowering.specs.Lowered.{AreKnown}
use Rattle.patterns_lowering.proofs.Fitting.{entries_sound}
use Rattle.patterns_lowering.proofs.Interning.{interned_on, types_stay}
use Rattle.patterns_lowering.proofs.intern.interned.Goals as goal

pub lowered_entries-requires-clause-known : goal.lowered_entries-requires-clause-known
lowered_entries-requires-clause-known g c =
    let old = c.args.bench.now.transaction.ctx in
    let new = c.interned_types.new.bench.transaction.ctx in
    subst (AreKnown new) (sym c.deref.ensures.value)
    (subst (λ (o : Op). AreKnown new (head o).properties) (sym c.op.view_is) (entries_sound new c.args.op.now (stays_sound old new c.args.op.now c.in-Ok.ensures.interned.grown.grows c.requires)))

pub returns-in-Ok-lowered_entries-clause-types : goal.returns-in-Ok-lowered_entries-clause-types
returns-in-Ok-lowered_entries-clause-types g c =
    types_stay c.interned_types.new.bench.transaction.ctx c.lowered_entries.new.bench.transaction.ctx c.in-Ok.types.0 c.in-Ok.types.1 c.in-Ok-lowered_entries.ensures.interned.grown.grows c.in-Ok.ensures.types

pub returns-in-Ok-lowered_entries-clause-interned : goal.returns-in-Ok-lowered_entries-clause-interned
returns-in-Ok-lowered_entries-clause-interned g c =
    interned_on g.L.Analysis.meaning c.led_benches_are_kept.ensures.more c.args.bench.now c.interned_types.new.bench c.lowered_entries.new.bench c.is_wellformed-2.ensures.context.holds c.is_wellformed-in-Ok-lowered_entries.ensures.context.holds c.in-Ok.ensures.interned c.in-Ok-lowered_entries.ensures.interned

pub returns-in-Err-lowered_entries-clause-interned : goal.returns-in-Err-lowered_entries-clause-interned
returns-in-Err-lowered_entries-clause-interned g c =
    interned_on g.L.Analysis.meaning c.led_benches_are_kept.ensures.more c.args.bench.now c.interned_types.new.bench c.lowered_entries.new.bench c.is_wellformed-2.ensures.context.holds c.is_wellformed-in-Err-lowered_entries.ensures.context.holds c.in-Ok.ensures.interned c.in-Err-lowered_entries.ensures.interned
