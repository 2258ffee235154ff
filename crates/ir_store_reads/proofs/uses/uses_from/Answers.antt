use Rattle.std.proofs.Common.{sym, ap, ◌∙◌, subst}
use Rattle.std.specs.Prelude.{IfSome}
use Rattle.ir_store_slots.specs.Lists.{IsHead}
use Rattle.ir_store_slots.specs.Index.{cells_of}
use Rattle.ir_store_slots.specs.Using.{uses_at}
use Rattle.ir_store_reads.specs.Uses.{uses_left, IsNode}
use Rattle.ir_store_reads.proofs.Using.{first_left, first_node}
use Rattle.ir_store_reads.proofs.uses.uses_from.Goals as goal
use Rattle.ir_store_reads.proofs.uses.uses_from.Goals.{in-None, in-Some}

pub invariant_of-result : goal.invariant_of-result
invariant_of-result c =
    let uses = c.args.uses.now in
    elim c.match-head.branch [
      | in-None w ↦ subst (IsNode uses.homes) (sym w.at-is) tt
      | in-Some w ↦
          let head = subst (λ z. IfSome z (λ h. IsHead uses.homes h)) w.in-Some.is c.requires in
          subst (IsNode uses.homes) (sym w.at-is) (first_node c.args.slots.now (cells_of c.args.cells.now.items) uses c.laws.ensures w.in-Some.head head w.first-at.result w.first-at.ensures)
    ]

pub returns : goal.returns
returns c =
    let uses = c.args.uses.now in
    let slots = c.args.slots.now in
    let cells = cells_of c.args.cells.now.items in
    elim c.match-head.branch [
      | in-None w ↦ ap (uses_left slots cells uses) w.at-is ∙ sym (ap (uses_at slots cells uses.lists) w.in-None.is)
      | in-Some w ↦
          let head = subst (λ z. IfSome z (λ h. IsHead uses.homes h)) w.in-Some.is c.requires in
          ap (uses_left slots cells uses) w.at-is
          ∙ first_left slots cells uses c.laws.ensures w.in-Some.head head w.first-at.result w.first-at.ensures
          ∙ sym (ap (uses_at slots cells uses.lists) w.in-Some.is)
    ]
