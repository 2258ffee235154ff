use Rattle.std.proofs.Common.{◌∙◌, sym, ap, subst, arith}
use Rattle.ir_store.specs.Calls.{after_restore, CanRestore}
use Rattle.ir_store.proofs.Called.{rows_in, keys_in, same_inside}
use Rattle.ir_store_reads.proofs.Marking.{can_mark_used}
use Rattle.ir_store.proofs.Spotted.{held_found}
use Rattle.ir_store.proofs.Spotted.{joint_head, joint_given}
use Rattle.ir_store.proofs.Whole.{restore_found, restore_before, restore_lead, restore_fits, restore_done, count_few}
use Rattle.ir_store.proofs.store.Store.restore.Goals as goal

pub same-self : goal.same-self
same-self c = same_inside c.self.inside _ _ _

pub returns-in_default : goal.returns-in_default
returns-in_default c = absurd (restore_found c.self.inside c.self.invariant c.laws.ensures c.args.op c.args.place c.args.fresh (subst (CanRestore c.args.op c.args.place c.args.fresh) (sym c.self.view_is) c.requires) c.in_default.ensures)

pub link_operands-requires : goal.link_operands-requires
link_operands-requires c = restore_lead c.self.inside c.self.invariant c.laws.ensures c.args.op c.args.place c.args.fresh (subst (CanRestore c.args.op c.args.place c.args.fresh) (sym c.self.view_is) c.requires) c.in-Some.key c.in-Some.ensures.0

pub link-requires-clause-head : goal.link-requires-clause-head
link-requires-clause-head c =
    joint_head c.self.inside c.self.invariant.right c.laws.ensures c.args.op c.in-Some.key c.in-Some.ensures.0 c.args.place c.in-Some.head c.in-Some.before c.in-Some.ensures.1

pub link_slot-requires : goal.link_slot-requires
link_slot-requires c =
    let a = c.self.inside in
    let w = c.self.invariant in
    can_mark_used (rows_in a) a.marks.homes c.in-Some.key w.marked (held_found (rows_in a) (keys_in a) a.sibs a.root a.represented.0 w.right a.represented.1 c.args.op c.in-Some.key c.in-Some.ensures.0).used

pub invariant_of-self-inside-2 : goal.invariant_of-self-inside-2
invariant_of-self-inside-2 c =
    joint_given c.self.inside c.self.invariant.right c.laws.ensures c.args.op c.in-Some.key c.in-Some.ensures.0 c.args.place c.in-Some.head c.in-Some.before c.in-Some.ensures.1
    c.set_live.new.self c.set_live.ensures c.link.new.sibs c.link.ensures.lists c.link.ensures.homes

pub invariant_of-self : goal.invariant_of-self
invariant_of-self c =
    restore_fits c.self.inside c.self.invariant c.laws.ensures c.args.op c.args.place c.args.fresh (subst (CanRestore c.args.op c.args.place c.args.fresh) (sym c.self.view_is) c.requires) c.in-Some.key c.in-Some.ensures.0 c.in-Some.head c.in-Some.before c.in-Some.ensures.1
    c.set_live.new.self c.set_live.ensures c.link.new.sibs c.link.ensures.lists c.link.ensures.homes c.link_operands.new.uses.homes c.link_operands.ensures c.self-2-1.given.0 c.raised-self-inside.result c.raised-self-inside.ensures c.link_slot.new.marks.homes c.link_slot.ensures

pub returns : goal.returns
returns c =
    restore_done c.self.inside c.self.invariant c.laws.ensures c.args.op c.args.place c.args.fresh (subst (CanRestore c.args.op c.args.place c.args.fresh) (sym c.self.view_is) c.requires) c.in-Some.key c.in-Some.ensures.0 c.in-Some.head c.in-Some.before c.in-Some.ensures.1
    c.set_live.new.self c.set_live.ensures c.link.new.sibs c.link.ensures.lists c.link.ensures.homes c.link_operands.new.uses.homes c.link_operands.ensures c.self-2-1.given.0 c.self-2-1.given.1.0 c.self-2-1.given.1.1.0 c.raised-self-inside.result c.raised-self-inside.ensures
    ∙ ap (after_restore c.args.op c.args.place c.args.fresh) c.self.view_is

pub link-requires-clause-before : goal.link-requires-clause-before
link-requires-clause-before c =
    restore_before c.self.inside c.self.invariant c.laws.ensures c.args.op c.args.place c.args.fresh (subst (CanRestore c.args.op c.args.place c.args.fresh) (sym c.self.view_is) c.requires) c.in-Some.key c.in-Some.ensures.0 c.in-Some.head c.in-Some.before c.in-Some.ensures.1

pub overflow_add-self : goal.overflow_add-self
overflow_add-self c = let few = count_few c.self.inside c.self.invariant in omega arith
