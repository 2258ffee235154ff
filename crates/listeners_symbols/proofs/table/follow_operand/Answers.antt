use Rattle.std.proofs.Common.{refl, ap, sym, ◌∙◌, subst, inr}
use Rattle.ir_event.specs.types.Things.{ContextModel}
use Rattle.ir_event.specs.Modules.{NodeIsOf}
use Rattle.ir_event.specs.declared.world.World.{World}
use Rattle.ir_event.proofs.Nodes.{known_node}
use Rattle.listeners_symbols.specs.Roles.{callee_of}
use Rattle.listeners_symbols.specs.Table.{head_meaning}
use Rattle.listeners_symbols.proofs.Gathered.{shown_head}
use Rattle.listeners_symbols.proofs.table.follow_operand.Goals as goal

pub callee_of-requires : goal.callee_of-requires
callee_of-requires c =
    let w = c.args.view.now.world.now in
    let same = c.context.ensures ∙ ap (λ (u : World). u.ctx) c.node.ensures.world in
    subst (λ (z : ContextModel). NodeIsOf z c.in-Some.node) (sym same) (known_node w c.args.op c.in-Some.node (sym c.in-Some.ensures.answer))

pub returns-in-None-clause-followed : goal.returns-in-None-clause-followed
returns-in-None-clause-followed c =
    let w = c.args.view.now.world.now in
    let same = c.context.ensures ∙ ap (λ (u : World). u.ctx) c.node.ensures.world in
    let none = sym c.in-None.ensures.parts in
    inr (λ o e. ap callee_of (shown_head w c.args.op c.in-Some.node o (sym c.in-Some.ensures.answer) e) ∙ (λ i. callee_of (head_meaning (sym same i) c.in-Some.node.head)) ∙ none, λ y. refl)
