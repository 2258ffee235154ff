use Rattle.std.proofs.Common.{◌≡◌, ◌∙◌, ap, sym, refl, cond, map, ◌++◌, [], ℕ, List}
use denote.Ref.{Bor}
use Rattle.ir_tree.specs.Tree.{Op, head}
use Rattle.ir_tree.specs.Meaning.{meaning}
use Rattle.ir_tree.proofs.Steps.{made_next, made_all}
use Rattle.ir_tree_blocks.specs.Scopes.{is_scope}
use Rattle.ir_tree_blocks.specs.Flattening.{blocks_in, blocks_under}
use Rattle.ir_tree_blocks.specs.Inside.{inside_of, under_region}
use Rattle.ir_tree_blocks.specs.Read.{ops_meaning, region_meaning}
use Rattle.ir_tree_blocks.proofs.text_order.+under.Goals as goal

pub push_region-loop-op-preserved : goal.push_region-loop-op-preserved
push_region-loop-op-preserved t c =
    let xs = c.deref-op-items.result.now in
    let o = meaning c.args.ctx.now c.op-item.result in
    let view = λ (b : Bor Op). inside_of (meaning c.args.ctx.now b.now) in
    let todo = λ (n : ℕ) (xs : List Op). blocks_under (ops_meaning c.args.ctx.now xs) in
    made_next todo xs c.loop-op.op-index c.op-item.result (cond (is_scope (head o)) (blocks_in o) [])
    (map view c.loop-op.out.items) (map view c.push_scope.new.out.items) (map view c.args.out.now.items ++ todo 0 xs)
    c.loop-op-test.true c.op-item.is c.in_ok-push_scope.ensures refl c.loop-op.invariant

pub push_region-returns-after-loop-op : goal.push_region-returns-after-loop-op
push_region-returns-after-loop-op t c =
    let xs = c.deref-op-items.result.now in
    let view = λ (b : Bor Op). inside_of (meaning c.args.ctx.now b.now) in
    let old = map view c.args.out.now.items in
    let todo = λ (n : ℕ) (xs : List Op). blocks_under (ops_meaning c.args.ctx.now xs) in
    made_all todo xs c.loop-op.op-index (map view c.loop-op.out.items) (old ++ todo 0 xs) refl c.loop-op-test.false c.loop-op.invariant
    ∙ ap (λ z. old ++ z) (ap (todo 0) c.deref-op-items.ensures.value ∙ ap (λ g. under_region (region_meaning c.args.ctx.now g)) (sym c.in-Block.is))
