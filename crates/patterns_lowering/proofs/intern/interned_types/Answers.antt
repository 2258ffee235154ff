use Rattle.patterns_lowering.proofs.Interning.{interned_on, type_known}
use Rattle.std.proofs.Common.{◌∙◌}
use Rattle.ir_event.proofs.of_types.Terms.{type_stays}
use Rattle.patterns_lowering.proofs.intern.interned_types.Goals as goal

pub returns-in-Ok-interned_type-clause-types : goal.returns-in-Ok-interned_type-clause-types
returns-in-Ok-interned_type-clause-types g c =
    let b = c.interned_type.new.bench.transaction.ctx in
    let d = c.interned_type-2.new.bench.transaction.ctx in
    let grows = c.in-Ok-interned_type.ensures.interned.grown.grows in
    record {
      wide_known = type_known b d c.in-Ok.wide grows c.in-Ok.ensures.known;
      wide_is = type_stays b d c.in-Ok.wide grows c.in-Ok.ensures.known ∙ c.in-Ok.ensures.is;
      index_known = c.in-Ok-interned_type.ensures.known;
      index_is = c.in-Ok-interned_type.ensures.is;
    }

pub returns-in-Ok-interned_type-clause-interned : goal.returns-in-Ok-interned_type-clause-interned
returns-in-Ok-interned_type-clause-interned g c =
    interned_on g.L.Analysis.meaning c.led_benches_are_kept.ensures.more c.args.bench.now c.interned_type.new.bench c.interned_type-2.new.bench c.is_wellformed.ensures.context.holds c.is_wellformed-in-Ok-interned_type.ensures.context.holds c.in-Ok.ensures.interned c.in-Ok-interned_type.ensures.interned

pub returns-in-Err-interned_type-clause-interned : goal.returns-in-Err-interned_type-clause-interned
returns-in-Err-interned_type-clause-interned g c =
    interned_on g.L.Analysis.meaning c.led_benches_are_kept.ensures.more c.args.bench.now c.interned_type.new.bench c.interned_type-2.new.bench c.is_wellformed.ensures.context.holds c.is_wellformed-in-Err-interned_type.ensures.context.holds c.in-Ok.ensures.interned c.in-Err-interned_type.ensures.interned
