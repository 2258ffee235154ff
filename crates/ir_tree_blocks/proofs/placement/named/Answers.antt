use Rattle.std.proofs.Common.{◌≡◌, ◌∙◌, ap, refl, ◌++◌, [], cond, ℕ, List}
use Rattle.ir_tree.specs.Tree.{Op, head}
use Rattle.ir_tree.specs.Meaning.{meaning}
use Rattle.ir_tree.proofs.Steps.{made_next, made_all}
use Rattle.ir_tree_blocks.specs.Scopes.{is_scope, successors_of}
use Rattle.ir_tree_blocks.specs.Form.{named_in}
use Rattle.ir_tree_blocks.specs.Read.{ops_meaning}
use Rattle.ir_tree_blocks.proofs.placement.named.Goals as goal

pub loop-op-preserved : goal.loop-op-preserved
loop-op-preserved c =
    let xs = c.deref-op-items.result.now in
    let h = head (meaning c.args.ctx.now c.op-item.result) in
    let todo = λ (n : ℕ) (xs : List Op). named_in (ops_meaning c.args.ctx.now xs) in
    made_next todo xs c.loop-op.op-index c.op-item.result (cond (is_scope h) [] (successors_of h)) c.loop-op.names.items c.push_named.new.out.items (todo 0 xs)
    c.loop-op-test.true c.op-item.is c.in_ok-push_named.ensures refl c.loop-op.invariant

pub returns : goal.returns
returns c =
    let xs = c.deref-op-items.result.now in
    let todo = λ (n : ℕ) (xs : List Op). named_in (ops_meaning c.args.ctx.now xs) in
    made_all todo xs c.loop-op.op-index c.loop-op.names.items (todo 0 xs) refl c.loop-op-test.false c.loop-op.invariant ∙ ap (todo 0) c.deref-op-items.ensures.value
