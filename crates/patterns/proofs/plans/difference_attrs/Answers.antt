use Rattle.std.proofs.Common.{refl, subst}
use Rattle.ir_event.specs.types.Terms.{IntegerOf, type_term}
use Rattle.patterns.specs.Interned.{IsAttrOf, IsTypeOf}
use Rattle.patterns.proofs.Adding.{added_on}
use Rattle.patterns.proofs.Numbers.{attr_keeps, type_keeps}
use Rattle.patterns.proofs.plans.difference_attrs.Goals as goal

pub returns-in-Err-value_attr-clause-added : goal.returns-in-Err-value_attr-clause-added
returns-in-Err-value_attr-clause-added g c = added_on g.L.Analysis.meaning c.args.bench.now c.value_attr.new.bench c.value_attr-2.new.bench c.is_wellformed.ensures.context.holds c.in-Ok.ensures.added c.in-Err-value_attr.ensures.added

pub returns-in-Err-flags_attr-clause-added : goal.returns-in-Err-flags_attr-clause-added
returns-in-Err-flags_attr-clause-added g c =
    added_on g.L.Analysis.meaning c.args.bench.now c.value_attr-2.new.bench c.flags_attr.new.bench c.is_wellformed-2.ensures.context.holds
    (added_on g.L.Analysis.meaning c.args.bench.now c.value_attr.new.bench c.value_attr-2.new.bench c.is_wellformed.ensures.context.holds c.in-Ok.ensures.added c.in-Ok-value_attr.ensures.added)
    c.in-Err-flags_attr.ensures.added

pub returns-clause-ok : goal.returns-clause-ok
returns-clause-ok g c =
    let old = c.args.bench.now.transaction.ctx in
    let first = c.value_attr.new.bench.transaction.ctx in
    let second = c.value_attr-2.new.bench.transaction.ctx in
    let last = c.flags_attr.new.bench.transaction.ctx in
    let typed : IsTypeOf first c.args.ty (type_term old c.args.ty) = type_keeps old first c.args.ty _ c.in-Ok.ensures.added.grown.grows (c.requires.ty, refl) in (
      attr_keeps second last c.in-Ok.value _ c.is_wellformed-2.ensures.context.holds c.in-Ok-flags_attr.ensures.added.grown.grows (attr_keeps first second c.in-Ok.value _ c.is_wellformed.ensures.context.holds c.in-Ok-value_attr.ensures.added.grown.grows c.in-Ok.ensures.ok),
      attr_keeps second last c.in-Ok-value_attr.value _ c.is_wellformed-2.ensures.context.holds c.in-Ok-flags_attr.ensures.added.grown.grows
          (subst (λ t. IsAttrOf second c.in-Ok-value_attr.value (IntegerOf t 1)) typed.1 c.in-Ok-value_attr.ensures.ok),
      c.in-Ok-flags_attr.ensures.ok,
    )

pub returns-clause-added : goal.returns-clause-added
returns-clause-added g c =
    added_on g.L.Analysis.meaning c.args.bench.now c.value_attr-2.new.bench c.flags_attr.new.bench c.is_wellformed-2.ensures.context.holds
    (added_on g.L.Analysis.meaning c.args.bench.now c.value_attr.new.bench c.value_attr-2.new.bench c.is_wellformed.ensures.context.holds c.in-Ok.ensures.added c.in-Ok-value_attr.ensures.added)
    c.in-Ok-flags_attr.ensures.added
