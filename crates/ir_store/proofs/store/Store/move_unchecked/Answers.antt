use Rattle.std.proofs.Common.{◌∙◌, sym, ap, subst}
use Rattle.ir_store.specs.Calls.{after_shift}
use Rattle.ir_store.specs.Shifting.{CanRelink}
use Rattle.ir_store.proofs.Called.{same_inside}
use Rattle.ir_store.proofs.Moved.{move_found, move_item, move_head, move_before, move_given, move_fits, move_done}
use Rattle.ir_store.proofs.store.Store.move_unchecked.Goals as goal

pub same-self : goal.same-self
same-self c = same_inside c.self.inside _ _ _

pub returns-in_default : goal.returns-in_default
returns-in_default c =
    let can = subst (λ s. CanRelink c.args.op c.args.place s.module_of.tree) (sym c.self.view_is) c.requires in
    absurd (move_found c.self.inside c.self.invariant c.laws.ensures c.args.op c.args.place can c.in_default.ensures)

pub remove-requires : goal.remove-requires
remove-requires c =
    let can = subst (λ s. CanRelink c.args.op c.args.place s.module_of.tree) (sym c.self.view_is) c.requires in
    move_item c.self.inside c.self.invariant c.laws.ensures c.args.op c.args.place can c.in-Some.key c.in-Some.ensures.0 c.in-Some.head c.in-Some.before c.in-Some.ensures.1

pub link-requires-clause-head : goal.link-requires-clause-head
link-requires-clause-head c =
    let can = subst (λ s. CanRelink c.args.op c.args.place s.module_of.tree) (sym c.self.view_is) c.requires in
    move_head c.self.inside c.self.invariant c.laws.ensures c.args.op c.args.place can c.in-Some.key c.in-Some.ensures.0 c.in-Some.head c.in-Some.before c.in-Some.ensures.1
    c.remove.new.self c.remove.ensures.lists c.remove.ensures.homes c.laws-2.ensures

pub link-requires-clause-before : goal.link-requires-clause-before
link-requires-clause-before c =
    let can = subst (λ s. CanRelink c.args.op c.args.place s.module_of.tree) (sym c.self.view_is) c.requires in
    move_before c.self.inside c.self.invariant c.laws.ensures c.args.op c.args.place can c.in-Some.key c.in-Some.ensures.0 c.in-Some.head c.in-Some.before c.in-Some.ensures.1
    c.remove.new.self c.remove.ensures.lists c.remove.ensures.homes c.laws-2.ensures

pub invariant_of-self-inside-2 : goal.invariant_of-self-inside-2
invariant_of-self-inside-2 c =
    let can = subst (λ s. CanRelink c.args.op c.args.place s.module_of.tree) (sym c.self.view_is) c.requires in
    move_given c.self.inside c.self.invariant c.laws.ensures c.args.op c.args.place can c.in-Some.key c.in-Some.ensures.0 c.in-Some.head c.in-Some.before c.in-Some.ensures.1
    c.remove.new.self c.remove.ensures.lists c.remove.ensures.homes c.laws-2.ensures c.link.new.sibs c.link.ensures.lists c.link.ensures.homes

pub invariant_of-self : goal.invariant_of-self
invariant_of-self c =
    let can = subst (λ s. CanRelink c.args.op c.args.place s.module_of.tree) (sym c.self.view_is) c.requires in
    move_fits c.self.inside c.self.invariant c.laws.ensures c.args.op c.args.place can c.in-Some.key c.in-Some.ensures.0 c.in-Some.head c.in-Some.before c.in-Some.ensures.1
    c.remove.new.self c.remove.ensures.lists c.remove.ensures.homes c.laws-2.ensures c.link.new.sibs c.link.ensures.lists c.link.ensures.homes c.self-2-1.given.0

pub returns : goal.returns
returns c =
    let can = subst (λ s. CanRelink c.args.op c.args.place s.module_of.tree) (sym c.self.view_is) c.requires in
    move_done c.self.inside c.self.invariant c.laws.ensures c.args.op c.args.place can c.in-Some.key c.in-Some.ensures.0 c.in-Some.head c.in-Some.before c.in-Some.ensures.1
    c.remove.new.self c.remove.ensures.lists c.remove.ensures.homes c.laws-2.ensures c.link.new.sibs c.link.ensures.lists c.link.ensures.homes c.self-2-1.given.0 c.self-2-1.given.1.0 c.self-2-1.given.1.1.0
    ∙ ap (after_shift c.args.op c.args.place) c.self.view_is
