use Rattle.std.proofs.Common.{◌∙◌, sym, ap, Some}
use Rattle.std.specs.Prelude.{option_map}
use Rattle.ir_event.specs.store.Nodes.{node_of}
use Rattle.ir_event.specs.store.Stored.{known}
use Rattle.ir_event.specs.declared.world.World.{World}
use Rattle.listeners_support.proofs.Reading.{no_last, last_unshown, last_shown}
use Rattle.listeners_support.proofs.gather.last_name.Goals as goal

pub returns-in_err-last-clause-name : goal.returns-in_err-last-clause-name
returns-in_err-last-clause-name c =
    let w = c.args.view.now.world.now in
    c.from_residual.ensures ∙ sym (no_last w.store w.wellformed.distinct c.args.op c.args.region (sym c.in_err-last.ensures.answer))

pub returns-in_err-node-clause-name : goal.returns-in_err-node-clause-name
returns-in_err-node-clause-name c =
    let w = c.args.view.now.world.now in
    let y = c.in_ok-last.last in
    let shown = ap (λ (u : World). option_map node_of (known y u.store)) (sym c.last.ensures.world) ∙ sym c.in_err-node.ensures.answer in
    absurd (last_unshown w.store w.wellformed.distinct c.args.op c.args.region y (sym c.in_ok-last.ensures.answer) shown)

pub returns-clause-name : goal.returns-clause-name
returns-clause-name c =
    let w = c.args.view.now.world.now in
    let y = c.in_ok-last.last in
    let shown = ap (λ (u : World). option_map node_of (known y u.store)) (sym c.last.ensures.world) ∙ sym c.in_ok-node.ensures.answer in
    ap Some c.name.ensures ∙ sym (last_shown w.store w.wellformed.distinct c.args.op c.args.region y c.in_ok-node.node (sym c.in_ok-last.ensures.answer) shown)
