use Rattle.std.proofs.Common.{refl, subst}
use Rattle.ir_event.specs.types.Terms.{name_term}
use Rattle.patterns_lowering.specs.Interning.{Added}
use Rattle.patterns.specs.Interned.{FlagsOf, IsNameOf}
use Rattle.patterns.proofs.Adding.{added_on}
use Rattle.patterns.proofs.Numbers.{attr_keeps, name_keeps, type_keeps}
use Rattle.patterns.proofs.Standing.{combined_edits_stand}
use Rattle.patterns.proofs.plans.combination.Goals as goal

pub flags_for-requires : goal.flags_for-requires
flags_for-requires g c = (name_keeps c.args.bench.now.transaction.ctx c.value_attr.new.bench.transaction.ctx c.args.name _ c.in-Ok.ensures.added.grown.grows (c.requires.name, refl)).0

pub returns-in-Err-flags_for-clause-added : goal.returns-in-Err-flags_for-clause-added
returns-in-Err-flags_for-clause-added g c = added_on g.L.Analysis.meaning c.args.bench.now c.value_attr.new.bench c.flags_for.new.bench c.is_wellformed.ensures.context.holds c.in-Ok.ensures.added c.in-Err-flags_for.ensures.added

pub returns-in-Ok-combined_edits-clause-stands : goal.returns-in-Ok-combined_edits-clause-stands
returns-in-Ok-combined_edits-clause-stands g c =
    let old = c.args.bench.now.transaction.ctx in
    let middle = c.value_attr.new.bench.transaction.ctx in
    let new = c.flags_for.new.bench.transaction.ctx in
    let all : Added g.L.Analysis.meaning c.args.bench.now c.flags_for.new.bench = added_on g.L.Analysis.meaning c.args.bench.now c.value_attr.new.bench c.flags_for.new.bench c.is_wellformed.ensures.context.holds c.in-Ok.ensures.added c.in-Ok-flags_for.ensures.added in
    let named : IsNameOf middle c.args.name (name_term old c.args.name) = name_keeps old middle c.args.name _ c.in-Ok.ensures.added.grown.grows (c.requires.name, refl) in
    combined_edits_stand new c.is_wellformed-2.ensures.context c.args.site.now c.args.ty _ (type_keeps old new c.args.ty _ all.grown.grows (c.requires.ty, refl))
    c.args.name _ (name_keeps old new c.args.name _ all.grown.grows (c.requires.name, refl))
    c.in-Ok.value c.args.bits (attr_keeps middle new c.in-Ok.value _ c.is_wellformed.ensures.context.holds c.in-Ok-flags_for.ensures.added.grown.grows c.in-Ok.ensures.ok)
    c.in-Ok-flags_for.flags (subst (λ n. FlagsOf new n c.in-Ok-flags_for.flags) named.1 c.in-Ok-flags_for.ensures.ok)
    c.args.operand.now _ c.in-Ok-combined_edits.ensures

pub returns-in-Ok-combined_edits-clause-added : goal.returns-in-Ok-combined_edits-clause-added
returns-in-Ok-combined_edits-clause-added g c = added_on g.L.Analysis.meaning c.args.bench.now c.value_attr.new.bench c.flags_for.new.bench c.is_wellformed.ensures.context.holds c.in-Ok.ensures.added c.in-Ok-flags_for.ensures.added

pub returns-in-Err-combined_edits-clause-added : goal.returns-in-Err-combined_edits-clause-added
returns-in-Err-combined_edits-clause-added g c = added_on g.L.Analysis.meaning c.args.bench.now c.value_attr.new.bench c.flags_for.new.bench c.is_wellformed.ensures.context.holds c.in-Ok.ensures.added c.in-Ok-flags_for.ensures.added
