use Rattle.std.proofs.Common.{refl}
use Rattle.patterns_lowering.specs.Interning.{Added}
use Rattle.patterns.proofs.Adding.{added_on}
use Rattle.patterns.proofs.Numbers.{attr_keeps, type_keeps}
use Rattle.patterns.proofs.Standing.{chosen_edits_stand}
use Rattle.patterns.proofs.plans.choice.Goals as goal

pub returns-in-Err-integer_type-clause-added : goal.returns-in-Err-integer_type-clause-added
returns-in-Err-integer_type-clause-added g c = added_on g.L.Analysis.meaning c.args.bench.now c.predicate_attr.new.bench c.integer_type.new.bench c.is_wellformed.ensures.context.holds c.in-Ok.ensures.added c.in-Err-integer_type.ensures.added

pub returns-in-Ok-chosen_edits-clause-stands : goal.returns-in-Ok-chosen_edits-clause-stands
returns-in-Ok-chosen_edits-clause-stands g c =
    let old = c.args.bench.now.transaction.ctx in
    let middle = c.predicate_attr.new.bench.transaction.ctx in
    let new = c.integer_type.new.bench.transaction.ctx in
    let all : Added g.L.Analysis.meaning c.args.bench.now c.integer_type.new.bench = added_on g.L.Analysis.meaning c.args.bench.now c.predicate_attr.new.bench c.integer_type.new.bench c.is_wellformed.ensures.context.holds c.in-Ok.ensures.added c.in-Ok-integer_type.ensures.added in
    chosen_edits_stand new c.is_wellformed-2.ensures.context c.args.site.now c.args.ty _ (type_keeps old new c.args.ty _ all.grown.grows (c.requires.ty, refl))
    c.in-Ok-integer_type.truth c.in-Ok-integer_type.ensures.ok
    c.in-Ok.predicate c.args.predicate (attr_keeps middle new c.in-Ok.predicate _ c.is_wellformed.ensures.context.holds c.in-Ok-integer_type.ensures.added.grown.grows c.in-Ok.ensures.ok)
    c.args.first.now c.args.second.now _ c.in-Ok-chosen_edits.ensures

pub returns-in-Ok-chosen_edits-clause-added : goal.returns-in-Ok-chosen_edits-clause-added
returns-in-Ok-chosen_edits-clause-added g c = added_on g.L.Analysis.meaning c.args.bench.now c.predicate_attr.new.bench c.integer_type.new.bench c.is_wellformed.ensures.context.holds c.in-Ok.ensures.added c.in-Ok-integer_type.ensures.added

pub returns-in-Err-chosen_edits-clause-added : goal.returns-in-Err-chosen_edits-clause-added
returns-in-Err-chosen_edits-clause-added g c = added_on g.L.Analysis.meaning c.args.bench.now c.predicate_attr.new.bench c.integer_type.new.bench c.is_wellformed.ensures.context.holds c.in-Ok.ensures.added c.in-Ok-integer_type.ensures.added
