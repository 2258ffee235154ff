use Rattle.std.proofs.Common.{◌∙◌, ap, refl, ◌∷◌, [], ◌+◌, ℕ, List, drop}
use Rattle.ir_tree.specs.Tree.{Op}
use Rattle.ir_tree.proofs.Steps.{made_next, made_all}
use Rattle.ir_tree_blocks.proofs.nesting.copies.Goals as goal

pub loop-op-preserved : goal.loop-op-preserved
loop-op-preserved c =
    let xs = c.deref-op-items.result.now in
    let n = c.loop-op.op-index in
    let y = c.in_ok-copy.field-0 in
    let todo = λ (n : ℕ) (xs : List Op). xs in
    let next = ap (λ o. o ∷ drop (n + 1) xs) c.in_ok-copy.ensures in
    made_next todo xs n c.op-item.result (y ∷ []) c.loop-op.copies.items c.push.new.self.items xs c.loop-op-test.true c.op-item.is c.in_ok-push.ensures.items next c.loop-op.invariant

pub returns : goal.returns
returns c =
    let xs = c.deref-op-items.result.now in
    let todo = λ (n : ℕ) (xs : List Op). xs in
    made_all todo xs c.loop-op.op-index c.loop-op.copies.items xs refl c.loop-op-test.false c.loop-op.invariant ∙ c.deref-op-items.ensures.value
