use Rattle.std.proofs.Common.{◌∙◌, sym, ap, Some}
use Rattle.std.specs.Prelude.{option_map}
use Rattle.ir_event.specs.store.Nodes.{node_of}
use Rattle.ir_event.specs.store.Stored.{known}
use Rattle.ir_event.specs.tree_laws.Reads.{next_of}
use Rattle.ir_event.specs.declared.world.World.{World}
use Rattle.ir_event.proofs.Nodes.{known_node}
use Rattle.listeners_support.proofs.Reading.{no_outer, parent_unshown, parent_shown, ended_at}
use Rattle.listeners_support.specs.Gathered.{outer_in}
use Rattle.listeners_support.proofs.gather.outer_of.Goals as goal

pub returns-in_err-parent-clause-outer : goal.returns-in_err-parent-clause-outer
returns-in_err-parent-clause-outer c =
    let w = c.args.view.now.world.now in
    ap (option_map outer_in) c.from_residual.ensures ∙ sym (no_outer w.store.module_of.tree w.wellformed.distinct c.args.op (sym c.in_err-parent.ensures.answer))

pub returns-in_err-node-clause-outer : goal.returns-in_err-node-clause-outer
returns-in_err-node-clause-outer c =
    let w = c.args.view.now.world.now in
    let p = c.in_ok-parent.parent in
    let shown = ap (λ (u : World). option_map node_of (known p u.store)) (sym c.parent.ensures.world) ∙ sym c.in_err-node.ensures.answer in
    absurd (parent_unshown w.store w.wellformed.distinct c.args.op p (sym c.in_ok-parent.ensures.answer) shown)

pub returns-in-Some-clause-outer : goal.returns-in-Some-clause-outer
returns-in-Some-clause-outer c =
    let w = c.args.view.now.world.now in
    let p = c.in_ok-parent.parent in
    let n = c.in_ok-node.node in
    let shown = ap (λ (u : World). option_map node_of (known p u.store)) (sym c.parent.ensures.world) ∙ sym c.in_ok-node.ensures.answer in
    let next_is = sym c.in-Some.is ∙ c.next.ensures.answer ∙ ap (λ (u : World). next_of c.args.op u.store.module_of.tree) (c.node.ensures.world ∙ c.parent.ensures.world) in
    (λ i. Some (record { name = c.name-name.ensures i; ended = ended_at (next_is i) n })) ∙ sym (parent_shown w.store w.wellformed.distinct c.args.op p n (sym c.in_ok-parent.ensures.answer) shown)

pub returns-in-None-clause-outer : goal.returns-in-None-clause-outer
returns-in-None-clause-outer c =
    let w = c.args.view.now.world.now in
    let p = c.in_ok-parent.parent in
    let n = c.in_ok-node.node in
    let shown = ap (λ (u : World). option_map node_of (known p u.store)) (sym c.parent.ensures.world) ∙ sym c.in_ok-node.ensures.answer in
    let next_is = sym c.in-None.is ∙ c.next.ensures.answer ∙ ap (λ (u : World). next_of c.args.op u.store.module_of.tree) (c.node.ensures.world ∙ c.parent.ensures.world) in
    (λ i. Some (record { name = c.name-name.ensures i; ended = ended_at (next_is i) n })) ∙ sym (parent_shown w.store w.wellformed.distinct c.args.op p n (sym c.in_ok-parent.ensures.answer) shown)

pub returns-in-None-clause-known : goal.returns-in-None-clause-known
returns-in-None-clause-known c =
    let w = c.args.view.now.world.now in
    let p = c.in_ok-parent.parent in
    known_node w p c.in_ok-node.node (ap (λ (u : World). option_map node_of (known p u.store)) (sym c.parent.ensures.world) ∙ sym c.in_ok-node.ensures.answer)
