use Rattle.std.proofs.Common.{◌∙◌, ◌<◌, sym, ap, subst, length}
use Rattle.ir_store_lists.specs.Lists.{list_at}
use Rattle.ir_store_slots.proofs.Listed.{forget_inside, forget_two, forget_item, forget_less, forget_on, forgot_end, listed_without}
use Rattle.ir_store_slots.proofs.release.forget_keys.Goals as goal

pub overflow_sub-node : goal.overflow_sub-node
overflow_sub-node c = forget_two c.args.slots.now c.lacking.slots c.lacking.marks.lists c.lacking.marks.homes c.laws.ensures c.in-Some.node (sym c.in-Some.is ∙ c.lacking.invariant.1) c.lacking.invariant.0

pub drop_gone-requires : goal.drop_gone-requires
drop_gone-requires c = forget_inside c.args.slots.now c.lacking.slots c.lacking.marks.lists c.lacking.marks.homes c.laws.ensures c.in-Some.node (sym c.in-Some.is ∙ c.lacking.invariant.1) c.lacking.invariant.0

pub remove-requires : goal.remove-requires
remove-requires c = forget_item c.args.slots.now c.lacking.slots c.lacking.marks.lists c.lacking.marks.homes c.laws.ensures c.in-Some.node (sym c.in-Some.is ∙ c.lacking.invariant.1) c.lacking.invariant.0

pub first-at-requires-in-Some : goal.first-at-requires-in-Some
first-at-requires-in-Some c = (forget_on c.args.slots.now c.lacking.slots c.lacking.marks.lists c.lacking.marks.homes c.laws.ensures c.in-Some.node (sym c.in-Some.is ∙ c.lacking.invariant.1) c.lacking.invariant.0 c.drop_gone.new.self c.drop_gone.ensures c.remove.new.self.homes c.remove.ensures.homes).marked.lacking

pub lacking-smaller : goal.lacking-smaller
lacking-smaller c =
    subst (λ z. length z < length (list_at c.lacking.marks.lists 1)) (sym (ap (λ z. list_at z 1) c.remove.ensures.lists ∙ listed_without c.lacking.marks.lists 1 c.in-Some.node))
    (forget_less c.args.slots.now c.lacking.slots c.lacking.marks.lists c.lacking.marks.homes c.laws.ensures c.in-Some.node (sym c.in-Some.is ∙ c.lacking.invariant.1) c.lacking.invariant.0)

pub lacking-preserved : goal.lacking-preserved
lacking-preserved c = (forget_on c.args.slots.now c.lacking.slots c.lacking.marks.lists c.lacking.marks.homes c.laws.ensures c.in-Some.node (sym c.in-Some.is ∙ c.lacking.invariant.1) c.lacking.invariant.0 c.drop_gone.new.self c.drop_gone.ensures c.remove.new.self.homes c.remove.ensures.homes, c.first-at-in-Some.ensures)

pub returns-clause-forgets : goal.returns-clause-forgets
returns-clause-forgets c = forgot_end c.args.slots.now c.lacking.slots c.lacking.marks.lists c.lacking.marks.homes c.laws-2.ensures c.lacking.invariant.0 (sym c.in_default.is ∙ c.lacking.invariant.1)
