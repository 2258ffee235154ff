use Rattle.std.proofs.Common.{refl}
use Rattle.patterns_lowering.specs.Interning.{Added}
use Rattle.patterns.proofs.Adding.{added_on}
use Rattle.patterns.proofs.Numbers.{flags_keep, name_keeps, type_keeps}
use Rattle.patterns.proofs.Standing.{remainder_edits_stand}
use Rattle.patterns.proofs.plans.remainder.Goals as goal

pub returns-in-Err-flags_attr-clause-added : goal.returns-in-Err-flags_attr-clause-added
returns-in-Err-flags_attr-clause-added g c = added_on g.L.Analysis.meaning c.args.bench.now c.flags_for.new.bench c.flags_attr.new.bench c.is_wellformed.ensures.context.holds c.in-Ok.ensures.added c.in-Err-flags_attr.ensures.added

pub returns-in-Ok-remainder_edits-clause-stands : goal.returns-in-Ok-remainder_edits-clause-stands
returns-in-Ok-remainder_edits-clause-stands g c =
    let old = c.args.bench.now.transaction.ctx in
    let middle = c.flags_for.new.bench.transaction.ctx in
    let new = c.flags_attr.new.bench.transaction.ctx in
    let all : Added g.L.Analysis.meaning c.args.bench.now c.flags_attr.new.bench = added_on g.L.Analysis.meaning c.args.bench.now c.flags_for.new.bench c.flags_attr.new.bench c.is_wellformed.ensures.context.holds c.in-Ok.ensures.added c.in-Ok-flags_attr.ensures.added in
    remainder_edits_stand new c.is_wellformed-2.ensures.context c.args.site.now c.args.ty _ (type_keeps old new c.args.ty _ all.grown.grows (c.requires.ty, refl))
    c.args.division _ (name_keeps old new c.args.division _ all.grown.grows (c.requires.name, refl))
    c.in-Ok.flags (flags_keep middle new _ c.in-Ok.flags c.is_wellformed.ensures.context.holds c.in-Ok-flags_attr.ensures.added.grown.grows c.in-Ok.ensures.ok)
    c.in-Ok-flags_attr.flags c.in-Ok-flags_attr.ensures.ok
    c.args.first.now c.args.second.now _ c.in-Ok-remainder_edits.ensures

pub returns-in-Ok-remainder_edits-clause-added : goal.returns-in-Ok-remainder_edits-clause-added
returns-in-Ok-remainder_edits-clause-added g c = added_on g.L.Analysis.meaning c.args.bench.now c.flags_for.new.bench c.flags_attr.new.bench c.is_wellformed.ensures.context.holds c.in-Ok.ensures.added c.in-Ok-flags_attr.ensures.added

pub returns-in-Err-remainder_edits-clause-added : goal.returns-in-Err-remainder_edits-clause-added
returns-in-Err-remainder_edits-clause-added g c = added_on g.L.Analysis.meaning c.args.bench.now c.flags_for.new.bench c.flags_attr.new.bench c.is_wellformed.ensures.context.holds c.in-Ok.ensures.added c.in-Ok-flags_attr.ensures.added
