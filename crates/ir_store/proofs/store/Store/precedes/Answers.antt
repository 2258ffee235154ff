use Rattle.std.proofs.Common.{sym, ap, ◌∙◌, eqb-true}
use Rattle.ir_store.specs.Lifted.{level_of, lifted}
use Rattle.ir_store.proofs.Preceding.{same_level, precedes_apart, precedes_same}
use Rattle.ir_store.proofs.store.Store.precedes.Goals as goal
use Rattle.std.proofs.lemmas.Bool.{eqb-false}

pub goes_first-requires : goal.goes_first-requires
goes_first-requires c =
    let t = c.args.self.now.module_of.tree in
    same_level t c.distinct.ensures c.args.op c.args.other c.lift-first.result c.lift-second.result (c.lift-first.ensures ∙ ap (λ z. lifted (level_of z t) c.args.op t) c.lift.ensures) (c.lift-second.ensures ∙ ap (λ z. lifted (level_of z t) c.args.other t) c.lift-2.ensures)

pub returns-then-eq : goal.returns-then-eq
returns-then-eq c =
    let t = c.args.self.now.module_of.tree in
    c.ne.ensures
    ∙ precedes_same t c.distinct.ensures c.args.op c.args.other c.lift-first.result c.lift-second.result (c.lift-first.ensures ∙ ap (λ z. lifted (level_of z t) c.args.op t) c.lift.ensures) (c.lift-second.ensures ∙ ap (λ z. lifted (level_of z t) c.args.other t) c.lift-2.ensures)
    (eqb-true _ _ (sym c.if-eq.ensures))

pub returns-else-eq : goal.returns-else-eq
returns-else-eq c =
    let t = c.args.self.now.module_of.tree in
    c.goes_first.ensures
    ∙ precedes_apart t c.distinct.ensures c.args.op c.args.other c.lift-first.result c.lift-second.result (c.lift-first.ensures ∙ ap (λ z. lifted (level_of z t) c.args.op t) c.lift.ensures) (c.lift-second.ensures ∙ ap (λ z. lifted (level_of z t) c.args.other t) c.lift-2.ensures)
    (eqb-false _ _ (sym c.if-eq.ensures))
