use Rattle.std.proofs.Common.{◌∙◌, ap, sym, subst}
use Rattle.ir_event.specs.types.Things.{ContextModel}
use Rattle.patterns_lowering.specs.rewriter.RewriterCalls.{Benched}
use Rattle.patterns_lowering.specs.Interning.{IsCapacityRefusal}
use Rattle.patterns_lowering.specs.Refused.{as_full}
use Rattle.ir_event.specs.types.Terms.{attr_term, type_term}
use Rattle.patterns_lowering.proofs.Interning.{attr_fine, attr_interned, attr_lowered, attr_read, attr_wanting, interned_none, interned_one}
use Rattle.patterns_lowering.proofs.intern.lowered_attr.Goals as goal

pub returns-in_default-clause-interned : goal.returns-in_default-clause-interned
returns-in_default-clause-interned g c = interned_none g.L.Analysis.meaning c.led_benches_are_kept.ensures.none c.args.bench.now

pub returns-in-Ok-clause-known : goal.returns-in-Ok-clause-known
returns-in-Ok-clause-known g c = (attr_interned c.args.bench.now.transaction.ctx c.attr-made.new.self.transaction.ctx c.args.wide c.in-Some.value c.in-Ok.id c.is_wellformed.ensures.context.holds c.in-Ok.ensures.ok).0

pub returns-in-Ok-clause-is : goal.returns-in-Ok-clause-is
returns-in-Ok-clause-is g c =
    let old = c.args.bench.now.transaction.ctx in
    (attr_interned old c.attr-made.new.self.transaction.ctx c.args.wide c.in-Some.value c.in-Ok.id c.is_wellformed.ensures.context.holds c.in-Ok.ensures.ok).1
    ∙ attr_lowered (attr_term old c.args.attr) (type_term old c.args.wide) c.in-Some.value (attr_read old c.world.result.now.ctx c.args.attr c.index_bits.result c.in-Some.value c.world.ensures.ctx c.index_bits.ensures c.in-Some.is) c.requires.wide_is

pub returns-in-Ok-clause-interned : goal.returns-in-Ok-clause-interned
returns-in-Ok-clause-interned g c = interned_one g.L.Analysis.meaning c.args.bench.now c.attr-made.new.self c.is_wellformed.ensures.context.holds c.is_wellformed-2.ensures.context.holds c.attr-made.ensures.grown c.attr-made.ensures.listeners

pub returns-in-Err-clause-interned : goal.returns-in-Err-clause-interned
returns-in-Err-clause-interned g c = interned_one g.L.Analysis.meaning c.args.bench.now c.attr-made.new.self c.is_wellformed.ensures.context.holds c.is_wellformed-2.ensures.context.holds c.attr-made.ensures.grown c.attr-made.ensures.listeners

pub returns-in-Err-clause-refused : goal.returns-in-Err-clause-refused
returns-in-Err-clause-refused g c =
    let old = c.args.bench.now.transaction.ctx in
    subst (IsCapacityRefusal c.attr-made.new.self.transaction.ctx) (sym c.as_full.ensures)
    (subst (λ (t : ContextModel). IsCapacityRefusal t (as_full c.in-Err.refusal)) (sym (ap (λ (b : Benched _). b.transaction.ctx) c.in-Err.ensures.err))
    (attr_wanting old c.args.wide c.in-Some.value c.in-Err.refusal
    (attr_fine old c.args.attr c.args.wide c.in-Some.value c.is_wellformed.ensures.context.holds c.requires.known (attr_read old c.world.result.now.ctx c.args.attr c.index_bits.result c.in-Some.value c.world.ensures.ctx c.index_bits.ensures c.in-Some.is) c.requires.wide_is)
    c.in-Err.ensures.refused))
