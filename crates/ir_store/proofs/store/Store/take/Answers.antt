use Rattle.std.proofs.Common.{refl, ◌∙◌, sym, ap}
use Rattle.std.specs.Prelude.{Ok, Err}
use Rattle.ir_store.specs.Calls.{after_take}
use Rattle.ir_store_reads.specs.tree_laws.Reasons.{take_reason}
use Rattle.ir_store.proofs.Called.{rows_in, keys_in, same_inside, cut_given, cut_done}
use Rattle.ir_store.proofs.Taking.{heads_of}
use Rattle.ir_store.proofs.Whole.{find_values, plan, free_run, take_fits}
use Rattle.ir_store_reads.proofs.of_tree_laws.Reasoned.{no_take_reason}
use Rattle.ir_store_reads.proofs.Marking.{can_mark_used}
use Rattle.ir_store.proofs.store.Store.take.Goals as goal

pub find_idle-requires-clause-blocks : goal.find_idle-requires-clause-blocks
find_idle-requires-clause-blocks c = let a = c.self.inside in heads_of (rows_in a) (keys_in a) a.sibs a.root a.represented.0 c.self.invariant.right

pub same-self : goal.same-self
same-self c = same_inside c.self.inside _ _ _

pub find_idle-requires-clause-values : goal.find_idle-requires-clause-values
find_idle-requires-clause-values c = find_values c.self.inside c.self.invariant

pub returns-in-Err : goal.returns-in-Err
returns-in-Err c =
    let a = c.self.inside in
    (sym (ap (λ s. take_reason c.args.op s.module_of.tree) c.self.view_is) ∙ plan a c.self.invariant c.laws.ensures c.args.op (Err c.in-Err.e) c.in-Err.ensures, refl)

pub free_uses-requires : goal.free_uses-requires
free_uses-requires c =
    let p = plan c.self.inside c.self.invariant c.laws.ensures c.args.op (Ok c.in-Ok.key) c.in-Ok.ensures in
    free_run c.self.inside c.self.invariant c.args.op c.in-Ok.key p.0 c.use_run-base.result c.use_run-base.ensures

pub remove-requires : goal.remove-requires
remove-requires c =
    let p = plan c.self.inside c.self.invariant c.laws.ensures c.args.op (Ok c.in-Ok.key) c.in-Ok.ensures in
    (c.self.invariant.right.items c.in-Ok.key p.0.found.live p.0.inner).item

pub link_slot-requires : goal.link_slot-requires
link_slot-requires c =
    let p = plan c.self.inside c.self.invariant c.laws.ensures c.args.op (Ok c.in-Ok.key) c.in-Ok.ensures in
    can_mark_used (rows_in c.self.inside) c.self.inside.marks.homes c.in-Ok.key c.self.invariant.marked (c.self.invariant.right.live_used c.in-Ok.key p.0.found.live)

pub invariant_of-self-inside-2 : goal.invariant_of-self-inside-2
invariant_of-self-inside-2 c =
    let a = c.self.inside in
    let p = plan a c.self.invariant c.laws.ensures c.args.op (Ok c.in-Ok.key) c.in-Ok.ensures in
    cut_given a c.self.invariant.right c.args.op c.in-Ok.key p.0 c.set_live.new.self c.set_live.ensures c.remove.new.self c.remove.ensures.lists c.remove.ensures.homes

pub invariant_of-self : goal.invariant_of-self
invariant_of-self c =
    let a = c.self.inside in
    let p = plan a c.self.invariant c.laws.ensures c.args.op (Ok c.in-Ok.key) c.in-Ok.ensures in
    take_fits a c.self.invariant c.args.op c.in-Ok.key p.0 c.use_run-base.result c.use_run-base.ensures c.set_live.new.self c.set_live.ensures c.remove.new.self c.remove.ensures.lists c.remove.ensures.homes c.free_uses.new.uses.homes c.free_uses.ensures (no_take_reason c.args.op a.represented.0 p.1).spared c.self-2-1.given.0 c.link_slot.new.marks.homes c.link_slot.ensures

pub returns : goal.returns
returns c =
    let a = c.self.inside in
    let p = plan a c.self.invariant c.laws.ensures c.args.op (Ok c.in-Ok.key) c.in-Ok.ensures in (
      sym (ap (λ s. take_reason c.args.op s.module_of.tree) c.self.view_is) ∙ p.1,
      cut_done a c.self.invariant.right c.args.op c.in-Ok.key p.0 c.set_live.new.self c.set_live.ensures c.remove.new.self c.remove.ensures.lists c.remove.ensures.homes c.self-2-1.given.0 c.self-2-1.given.1.0 c.self-2-1.given.1.1.0
          ∙ ap (after_take c.args.op) c.self.view_is,
    )
