use Rattle.std.proofs.Common.{◌∷◌, length, sym, ap, ◌∙◌, subst, arith}
use Rattle.ir_store_slots.specs.Index.{cells_of}
use Rattle.ir_store_reads.specs.Uses.{uses_left, IsNode}
use Rattle.ir_store_reads.proofs.Using.{next_left, next_node}
use Rattle.ir_store_reads.proofs.uses.UsesOfIterator.next.Goals as goal

pub invariant_of-self : goal.invariant_of-self
invariant_of-self c =
    let a = c.self.inside in
    let item = subst (IsNode a.uses.now.homes) c.in-Some.is c.self.invariant in
    next_node a.slots.now (cells_of a.cells.now.items) a.uses.now c.laws.ensures c.in-Some.node item c.next-self-inside.result c.next-self-inside.ensures

pub returns-clause-steps : goal.returns-clause-steps
returns-clause-steps c =
    let a = c.self.inside in
    let slots = a.slots.now in
    let cells = cells_of a.cells.now.items in
    let item = subst (IsNode a.uses.now.homes) c.in-Some.is c.self.invariant in
    sym c.self.view_is
    ∙ ap (uses_left slots cells a.uses.now) c.in-Some.is
    ∙ next_left slots cells a.uses.now c.laws.ensures c.in-Some.node item c.next-self-inside.result c.next-self-inside.ensures
    ∙ ap (λ u. u ∷ uses_left slots cells a.uses.now c.next-self-inside.result) (sym c.user_at.ensures)

pub returns-clause-goes : goal.returns-clause-goes
returns-clause-goes c = record { on = λ _. (tt, tt, omega (arith, ap length (returns-clause-steps c))); keeps = tt; rests = λ _. tt }
