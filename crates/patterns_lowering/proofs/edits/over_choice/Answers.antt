use Rattle.std.proofs.Common.{subst, sym, ap, ◌∙◌, arith}
use Rattle.ir_event.specs.types.Things.{ContextModel}
use Rattle.ir_event.specs.store.Stored.{Stored}
use Rattle.patterns_lowering.specs.Plans.{IsIndexedChoice}
use Rattle.patterns_lowering.proofs.LoopEdited.{choice_stays, choice_stands, choice_fitting}
use Rattle.patterns_lowering.proofs.edits.over_choice.Goals as goal

pub choice_edits-requires-clause-of : goal.choice_edits-requires-clause-of
choice_edits-requires-clause-of g c =
    subst (λ (d : ContextModel). IsIndexedChoice d c.args.of.now) (sym c.world-2.ensures.ctx)
    (choice_stays c.args.bench.now.transaction.ctx c.interned.new.bench.transaction.ctx c.is_wellformed.ensures.context.holds c.in-Ok.ensures.interned.grown.grows c.args.of.now c.requires.of)

pub choice_edits-requires-clause-headroom : goal.choice_edits-requires-clause-headroom
choice_edits-requires-clause-headroom g c =
    let next = c.next_id-next.ensures ∙ ap (λ (s : Stored). s.module_of.next) c.world.ensures.store in
    omega (arith, next, c.requires.headroom)

pub returns-in-Ok-choice_edits-clause-edits : goal.returns-in-Ok-choice_edits-clause-edits
returns-in-Ok-choice_edits-clause-edits g c =
    choice_stands c.args.bench.now.transaction.ctx c.interned.new.bench.transaction.ctx c.is_wellformed.ensures.context.holds c.is_wellformed-2.ensures.context c.in-Ok.ensures.interned.grown.grows
    c.in-Ok.numbers.wide c.in-Ok.numbers.index c.in-Ok.numbers.properties.items c.in-Ok.ensures.types c.args.bench.now.transaction.store.module_of.next c.args.point.now c.in-Ok-choice_edits.edits.items
    c.args.of.now c.requires.of c.in-Ok.ensures.properties
    c.world-2.result.now.ctx c.next_id-next.result c.world-2.ensures.ctx (c.next_id-next.ensures ∙ ap (λ (s : Stored). s.module_of.next) c.world.ensures.store) c.in-Ok-choice_edits.ensures

pub returns-in-Ok-choice_edits-clause-fits_in : goal.returns-in-Ok-choice_edits-clause-fits_in
returns-in-Ok-choice_edits-clause-fits_in g c =
    choice_fitting c.args.bench.now.transaction.ctx c.interned.new.bench.transaction.ctx c.is_wellformed.ensures.context.holds c.is_wellformed-2.ensures.context c.in-Ok.ensures.interned.grown.grows
    c.in-Ok.numbers.wide c.in-Ok.numbers.index c.in-Ok.numbers.properties.items c.in-Ok.ensures.types c.args.bench.now.transaction.store.module_of.next c.args.point.now c.in-Ok-choice_edits.edits.items
    c.args.of.now c.requires.of c.in-Ok.ensures.properties
    c.world-2.result.now.ctx c.next_id-next.result c.world-2.ensures.ctx (c.next_id-next.ensures ∙ ap (λ (s : Stored). s.module_of.next) c.world.ensures.store) c.in-Ok-choice_edits.ensures
