use Rattle.std.proofs.Common.{◌∙◌, sym, ap}
use Rattle.std.specs.Prelude.{option_map}
use Rattle.ir_event.specs.store.Nodes.{node_of}
use Rattle.ir_event.specs.store.Stored.{known}
use Rattle.ir_event.specs.declared.world.World.{World}
use Rattle.listeners_support.proofs.Reading.{absent, unshown}
use Rattle.listeners_support.proofs.gather.shown.Goals as goal

pub returns-then-not-in_tree-clause-none : goal.returns-then-not-in_tree-clause-none
returns-then-not-in_tree-clause-none c =
    let w = c.args.view.now.world.now in
    λ none. absent w.store w.wellformed.distinct c.args.op (sym c.if-not-in_tree.ensures.answer)

pub returns-in_default-clause-none : goal.returns-in_default-clause-none
returns-in_default-clause-none c =
    let w = c.args.view.now.world.now in
    absurd (unshown w.store w.wellformed.distinct c.args.op (sym c.if-not-in_tree.ensures.answer) (ap (λ (u : World). option_map node_of (known c.args.op u.store)) (sym c.in_tree.ensures.world) ∙ sym c.in_default.ensures.answer))

pub returns-in_default-clause-absent : goal.returns-in_default-clause-absent
returns-in_default-clause-absent c =
    let w = c.args.view.now.world.now in
    absurd (unshown w.store w.wellformed.distinct c.args.op (sym c.if-not-in_tree.ensures.answer) (ap (λ (u : World). option_map node_of (known c.args.op u.store)) (sym c.in_tree.ensures.world) ∙ sym c.in_default.ensures.answer))

pub returns-clause-shown : goal.returns-clause-shown
returns-clause-shown c = ap (λ (u : World). option_map node_of (known c.args.op u.store)) (sym c.in_tree.ensures.world) ∙ sym c.in-Some.ensures.answer
