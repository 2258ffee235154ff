use Rattle.std.proofs.Common.{◌∙◌, sym, ap, refl, arith}
use Rattle.std.specs.Prelude.{option_map}
use Rattle.ir_event.specs.trees.Ids.{has_id}
use Rattle.ir_event.specs.store.Nodes.{node_of}
use Rattle.ir_event.specs.store.Stored.{known}
use Rattle.ir_event.specs.declared.world.World.{World}
use Rattle.listeners_support.specs.Gathered.{tree_in, gather_looks}
use Rattle.listeners_support.proofs.Reading.{nothing_around}
use Rattle.listeners_support.proofs.gather.gather.Goals as goal

pub returns-in_default-clause-around : goal.returns-in_default-clause-around
returns-in_default-clause-around c =
    let w = c.args.view.now.world.now in
    sym (nothing_around w.store w.wellformed.distinct c.args.op (c.in_default.ensures.none refl))

pub returns-in_default-clause-looks : goal.returns-in_default-clause-looks
returns-in_default-clause-looks c =
    let none = ap gather_looks (c.in_default.ensures.none refl) in
    let one = c.in_default.ensures.absent refl in
    omega arith

pub around_of-requires-clause-there : goal.around_of-requires-clause-there
around_of-requires-clause-there c = ap (λ (u : World). has_id c.args.op (tree_in u)) c.shown.ensures.world ∙ c.in-Some.ensures.there

pub around_of-requires-clause-shown : goal.around_of-requires-clause-shown
around_of-requires-clause-shown c = ap (λ (u : World). option_map node_of (known c.args.op u.store)) c.shown.ensures.world ∙ c.in-Some.ensures.shown
