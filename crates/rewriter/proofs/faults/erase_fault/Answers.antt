use Rattle.std.proofs.Common.{◌≡◌, ◌∙◌, sym, true}
use Rattle.ir_event.specs.trees.Ids.{has_id}
use Rattle.rewriter.proofs.There.{root_reason, other_reason}
use Rattle.rewriter.proofs.faults.erase_fault.Goals as goal

pub returns-in_default : goal.returns-in_default
returns-in_default c =
    let t = c.args.world.now.store.module_of.tree in
    sym (root_reason c.args.op t c.args.world.now.wellformed.distinct (sym c.in_tree.ensures ∙ c.if-not-in_tree.false) (sym c.place.ensures ∙ c.in_default.is))

pub returns-then-not-unused_outside : goal.returns-then-not-unused_outside
returns-then-not-unused_outside c =
    let t = c.args.world.now.store.module_of.tree in
    sym (other_reason c.args.op t c.args.world.now.wellformed.distinct (sym c.in_tree.ensures ∙ c.if-not-in_tree.false) _ _ (sym c.place.ensures ∙ c.in-Some.is) (sym c.unused_outside.ensures ∙ c.if-not-unused_outside.true))

pub returns : goal.returns
returns c =
    let t = c.args.world.now.store.module_of.tree in
    sym (other_reason c.args.op t c.args.world.now.wellformed.distinct (sym c.in_tree.ensures ∙ c.if-not-in_tree.false) _ _ (sym c.place.ensures ∙ c.in-Some.is) (sym c.unused_outside.ensures ∙ c.if-not-unused_outside.false))
