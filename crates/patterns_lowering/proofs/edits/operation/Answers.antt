use Rattle.std.proofs.Common.{subst, sym, ap, ◌∙◌, arith}
use Rattle.ir_event.specs.types.Things.{ContextModel}
use Rattle.ir_event.specs.store.Stored.{Stored}
use Rattle.patterns_lowering.specs.Plans.{IsIndexed}
use Rattle.patterns_lowering.proofs.Edited.{indexed_stays, operation_stands, operation_fitting}
use Rattle.patterns_lowering.proofs.edits.operation.Goals as goal

pub operation_edits-requires-clause-of : goal.operation_edits-requires-clause-of
operation_edits-requires-clause-of g c =
    subst (λ (d : ContextModel). IsIndexed d c.args.of.now) (sym c.world-2.ensures.ctx)
    (indexed_stays c.args.bench.now.transaction.ctx c.interned.new.bench.transaction.ctx c.args.of.now c.is_wellformed.ensures.context.holds c.in-Ok.ensures.interned.grown.grows c.requires.of)

pub operation_edits-requires-clause-headroom : goal.operation_edits-requires-clause-headroom
operation_edits-requires-clause-headroom g c =
    let next = c.next_id-next.ensures ∙ ap (λ (s : Stored). s.module_of.next) c.world.ensures.store in
    omega (arith, next, c.requires.headroom)

pub returns-in-Ok-operation_edits-clause-edits : goal.returns-in-Ok-operation_edits-clause-edits
returns-in-Ok-operation_edits-clause-edits g c =
    operation_stands c.args.bench.now.transaction.ctx c.interned.new.bench.transaction.ctx c.args.of.now c.is_wellformed.ensures.context.holds c.is_wellformed-2.ensures.context c.in-Ok.ensures.interned.grown.grows c.requires.of
    c.in-Ok.numbers.wide c.in-Ok.numbers.index c.in-Ok.numbers.properties.items c.in-Ok.ensures.types c.in-Ok.ensures.properties c.args.bench.now.transaction.store.module_of.next c.args.point.now c.in-Ok-operation_edits.edits.items
    c.world-2.result.now.ctx c.next_id-next.result c.world-2.ensures.ctx (c.next_id-next.ensures ∙ ap (λ (s : Stored). s.module_of.next) c.world.ensures.store) c.in-Ok-operation_edits.ensures

pub returns-in-Ok-operation_edits-clause-fits_in : goal.returns-in-Ok-operation_edits-clause-fits_in
returns-in-Ok-operation_edits-clause-fits_in g c =
    operation_fitting c.args.bench.now.transaction.ctx c.interned.new.bench.transaction.ctx c.args.of.now c.is_wellformed.ensures.context.holds c.is_wellformed-2.ensures.context c.in-Ok.ensures.interned.grown.grows c.requires.of
    c.in-Ok.numbers.wide c.in-Ok.numbers.index c.in-Ok.numbers.properties.items c.in-Ok.ensures.types c.in-Ok.ensures.properties c.args.bench.now.transaction.store.module_of.next c.args.point.now c.in-Ok-operation_edits.edits.items
    c.world-2.result.now.ctx c.next_id-next.result c.world-2.ensures.ctx (c.next_id-next.ensures ∙ ap (λ (s : Stored). s.module_of.next) c.world.ensures.store) c.in-Ok-operation_edits.ensures
