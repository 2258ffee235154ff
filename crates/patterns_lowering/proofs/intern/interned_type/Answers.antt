use Rattle.std.proofs.Common.{ap, sym, subst}
use Rattle.ir_event.specs.types.Things.{ContextModel}
use Rattle.patterns_lowering.specs.rewriter.RewriterCalls.{Benched}
use Rattle.patterns_lowering.specs.Interning.{IsCapacityRefusal}
use Rattle.patterns_lowering.specs.Refused.{as_full}
use Rattle.patterns_lowering.proofs.Interning.{interned_one, type_interned, type_wanting}
use Rattle.patterns_lowering.proofs.intern.interned_type.Goals as goal

pub returns-in-Ok-clause-known : goal.returns-in-Ok-clause-known
returns-in-Ok-clause-known g c = (type_interned c.args.bench.now.transaction.ctx c.ty-made.new.self.transaction.ctx c.args.node c.in-Ok.id c.is_wellformed.ensures.context.holds c.in-Ok.ensures.ok).0

pub returns-in-Ok-clause-is : goal.returns-in-Ok-clause-is
returns-in-Ok-clause-is g c = (type_interned c.args.bench.now.transaction.ctx c.ty-made.new.self.transaction.ctx c.args.node c.in-Ok.id c.is_wellformed.ensures.context.holds c.in-Ok.ensures.ok).1

pub returns-in-Ok-clause-interned : goal.returns-in-Ok-clause-interned
returns-in-Ok-clause-interned g c = interned_one g.L.Analysis.meaning c.args.bench.now c.ty-made.new.self c.is_wellformed.ensures.context.holds c.is_wellformed-2.ensures.context.holds c.ty-made.ensures.grown c.ty-made.ensures.listeners

pub returns-in-Err-clause-interned : goal.returns-in-Err-clause-interned
returns-in-Err-clause-interned g c = interned_one g.L.Analysis.meaning c.args.bench.now c.ty-made.new.self c.is_wellformed.ensures.context.holds c.is_wellformed-2.ensures.context.holds c.ty-made.ensures.grown c.ty-made.ensures.listeners

pub returns-in-Err-clause-refused : goal.returns-in-Err-clause-refused
returns-in-Err-clause-refused g c =
    subst (IsCapacityRefusal c.ty-made.new.self.transaction.ctx) (sym c.as_full.ensures)
    (subst (λ (t : ContextModel). IsCapacityRefusal t (as_full c.in-Err.refusal)) (sym (ap (λ (b : Benched _). b.transaction.ctx) c.in-Err.ensures.err))
    (type_wanting c.args.bench.now.transaction.ctx c.args.node c.in-Err.refusal c.requires.fine c.in-Err.ensures.refused))
