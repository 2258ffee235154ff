use Rattle.std.proofs.Common.{refl, ◌∙◌, sym, ap, subst, length, ◌<◌, set, arith}
use Rattle.std.specs.Prelude.{Ok, Err}
use Rattle.ir_store_reads.specs.tree_laws.Changes.{operand_at}
use Rattle.ir_store.specs.Calls.{after_operand}
use Rattle.ir_store_reads.specs.Reasoned.{rewire_reason}
use Rattle.ir_store.proofs.Called.{same_inside, operand_was, write_given, write_done}
use Rattle.ir_store.proofs.Whole.{rewire_head, rewired, rewire_item, rewire_free, rewire_headed, rewire_fits}
use Rattle.ir_store_reads.specs.Lists.{IsItem, free}
use Rattle.ir_store.proofs.store.Store.set_operand_unchecked.Goals as goal

pub find_rewire-requires-clause-head : goal.find_rewire-requires-clause-head
find_rewire-requires-clause-head c = rewire_head c.self.inside c.self.invariant c.args.op c.args.place c.args.value

pub same-self : goal.same-self
same-self c = same_inside c.self.inside _ _ _

pub returns-in-Err-clause-done : goal.returns-in-Err-clause-done
returns-in-Err-clause-done c = (
  sym (ap (λ s. rewire_reason c.args.op c.args.place c.args.value s.module_of.tree) c.self.view_is)
      ∙ rewired c.self.inside c.self.invariant c.args.op c.args.place c.args.value (Err c.in-Err.e) c.in-Err.ensures,
  refl,
)

pub use_node-node-requires : goal.use_node-node-requires
use_node-node-requires c =
    let p = rewired c.self.inside c.self.invariant c.args.op c.args.place c.args.value (Ok c.in-Ok.found) c.in-Ok.ensures in
    let i = (rewire_item c.self.inside c.self.invariant c.args.op c.args.place c.args.value c.in-Ok.found.0 c.in-Ok.found.1 p.0 p.1.0 p.1.1.1).inside in
    let few = c.self.invariant.few in
    omega arith

pub remove-requires : goal.remove-requires
remove-requires c =
    let p = rewired c.self.inside c.self.invariant c.args.op c.args.place c.args.value (Ok c.in-Ok.found) c.in-Ok.ensures in
    subst (IsItem c.self.inside.uses.homes) (sym c.use_node-node.ensures) (rewire_item c.self.inside c.self.invariant c.args.op c.args.place c.args.value c.in-Ok.found.0 c.in-Ok.found.1 p.0 p.1.0 p.1.1.1)

pub put_operand-old-requires : goal.put_operand-old-requires
put_operand-old-requires c =
    let p = rewired c.self.inside c.self.invariant c.args.op c.args.place c.args.value (Ok c.in-Ok.found) c.in-Ok.ensures in
    p.1.0

pub push_back-requires-clause-free : goal.push_back-requires-clause-free
push_back-requires-clause-free c =
    let p = rewired c.self.inside c.self.invariant c.args.op c.args.place c.args.value (Ok c.in-Ok.found) c.in-Ok.ensures in
    rewire_free c.self.inside c.self.invariant c.args.op c.args.place c.args.value c.in-Ok.found.0 c.in-Ok.found.1 p.0 p.1.0 p.1.1.1 c.use_node-node.result c.remove.new.self.homes c.use_node-node.ensures c.remove.ensures.homes

pub push_back-requires-clause-head : goal.push_back-requires-clause-head
push_back-requires-clause-head c =
    let p = rewired c.self.inside c.self.invariant c.args.op c.args.place c.args.value (Ok c.in-Ok.found) c.in-Ok.ensures in
    rewire_headed c.self.inside c.self.invariant c.args.op c.args.place c.args.value c.in-Ok.found.0 c.in-Ok.found.1 p.0 p.1.0 p.1.1.1 c.use_node-node.result c.remove.new.self.homes c.use_node-node.ensures c.remove.ensures.homes

pub invariant_of-self-inside-2 : goal.invariant_of-self-inside-2
invariant_of-self-inside-2 c =
    let p = rewired c.self.inside c.self.invariant c.args.op c.args.place c.args.value (Ok c.in-Ok.found) c.in-Ok.ensures in
    write_given c.self.inside c.self.invariant.right c.args.op c.in-Ok.found.0 c.args.place c.args.value p.0 c.put_operand-old.new.self c.put_operand-old.ensures.put

pub invariant_of-self : goal.invariant_of-self
invariant_of-self c =
    let p = rewired c.self.inside c.self.invariant c.args.op c.args.place c.args.value (Ok c.in-Ok.found) c.in-Ok.ensures in
    rewire_fits c.self.inside c.self.invariant c.args.op c.args.place c.args.value c.in-Ok.found.0 c.in-Ok.found.1 p.0 p.1.0 p.1.1.1 c.put_operand-old.new.self c.put_operand-old.ensures.put p.1.1.0 c.self-2-1.given.0 c.remove.new.self.homes c.push_back.new.self.homes
    (c.remove.ensures.homes ∙ ap (λ z. set c.self.inside.uses.homes z free) c.use_node-node.ensures) (c.push_back.ensures.homes ∙ ap (λ z. set c.remove.new.self.homes z c.in-Ok.found.1) c.use_node-node.ensures)

pub returns-clause-done : goal.returns-clause-done
returns-clause-done c =
    let p = rewired c.self.inside c.self.invariant c.args.op c.args.place c.args.value (Ok c.in-Ok.found) c.in-Ok.ensures in (
      sym (ap (λ s. rewire_reason c.args.op c.args.place c.args.value s.module_of.tree) c.self.view_is) ∙ p.1.1.0,
      write_done c.self.inside c.self.invariant.right c.args.op c.in-Ok.found.0 c.args.place c.args.value p.0 c.put_operand-old.new.self c.put_operand-old.ensures.put c.self-2-1.given.0 c.self-2-1.given.1.0 c.self-2-1.given.1.1.0
          ∙ ap (after_operand c.args.op c.args.place c.args.value) c.self.view_is,
    )

pub returns-clause-was : goal.returns-clause-was
returns-clause-was c =
    let p = rewired c.self.inside c.self.invariant c.args.op c.args.place c.args.value (Ok c.in-Ok.found) c.in-Ok.ensures in
    sym (ap (λ s. operand_at c.args.op c.args.place s.module_of.tree) c.self.view_is)
    ∙ operand_was c.self.inside c.self.invariant.right c.args.op c.in-Ok.found.0 c.args.place c.args.value p.0 _ c.put_operand-old.ensures.was
