use Rattle.std.proofs.Common.{subst, sym, ◌∙◌, List, ℕ}
use Rattle.ir_event.proofs.of_types.Terms.{type_stays}
use Rattle.patterns_lowering.specs.Lowered.{IsLowering}
use Rattle.patterns_lowering.proofs.Interning.{interned_none, interned_on, lowering_begun, type_known}
use Rattle.patterns_lowering.proofs.intern.lowered_entries.Goals as goal
use Rattle.ir_event.proofs.of_types.Truths.{uncons}

pub entries-init : goal.entries-init
entries-init g c = record {
  lowering = subst (λ (made : List (ℕ × ℕ)). IsLowering c.args.bench.now.transaction.ctx c.args.entries.now c.args.entries.now made) (sym c.new-lowered.ensures.items) (lowering_begun c.args.bench.now.transaction.ctx c.args.entries.now c.requires.known);
  interned = interned_none g.L.Analysis.meaning c.led_benches_are_kept.ensures.none c.args.bench.now;
  holds = c.is_wellformed.ensures.context.holds;
  known = c.requires.wide_known;
  is = c.requires.wide_is;
}

pub returns-in-Err-clause-interned : goal.returns-in-Err-clause-interned
returns-in-Err-clause-interned g c =
    interned_on g.L.Analysis.meaning c.led_benches_are_kept.ensures.more c.args.bench.now c.entries.bench c.lowered_entry.new.bench c.entries.invariant.holds c.is_wellformed-in-Err.ensures.context.holds c.entries.invariant.interned c.in-Err.ensures.interned

pub entries-preserved : goal.entries-preserved
entries-preserved g c =
    let b = c.entries.bench.transaction.ctx in
    let d = c.lowered_entry.new.bench.transaction.ctx in
    let grows = c.in_default-lowered_entry.ensures.interned.grown.grows in
    let u = uncons c.entries.rest.now c.entry-item.result _ c.in-len1-up.len_at_least c.entry-item.is in
    record {
      lowering = c.in_default-lowered_entry.ensures.lowered c.args.entries.now _ (subst (λ (z : List (ℕ × ℕ)). IsLowering b c.args.entries.now z c.entries.lowered.items) u c.entries.invariant.lowering);
      interned = interned_on g.L.Analysis.meaning c.led_benches_are_kept.ensures.more c.args.bench.now c.entries.bench c.lowered_entry.new.bench c.entries.invariant.holds c.is_wellformed-in-len1-up.ensures.context.holds c.entries.invariant.interned c.in_default-lowered_entry.ensures.interned;
      holds = c.is_wellformed-in-len1-up.ensures.context.holds;
      known = type_known b d c.args.wide grows c.entries.invariant.known;
      is = type_stays b d c.args.wide grows c.entries.invariant.known ∙ c.entries.invariant.is;
    }
