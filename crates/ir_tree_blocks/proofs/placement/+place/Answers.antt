use Rattle.std.proofs.Common.{◌≡◌, ◌∙◌, ap, sym, refl, map, ◌++◌, ◌∷◌, [], ◌||◌, cond, ℕ, List, append-nil}
use Rattle.ir_tree.specs.Tree.{Op, head}
use Rattle.ir_tree.specs.Meaning.{meaning}
use Rattle.ir_tree.specs.declared.tree.TreeRegion.{TreeRegion}
use Rattle.ir_tree.proofs.Steps.{made_next, made_all, made_after}
use Rattle.ir_tree_blocks.specs.Scopes.{is_scope, is_unreachable, label_of}
use Rattle.ir_tree_blocks.specs.Form.{PlacedBlock, named_in, placed_in, placed_in_region, placed_in_regions, placed_under}
use Rattle.ir_tree_blocks.specs.Read.{ops_meaning, region_meaning, regions_meaning}
use Rattle.ir_tree_blocks.specs.Views.{placed_view}
use Rattle.ir_tree_blocks.proofs.placement.+place.Goals as goal

pub push_scope-returns-then-not-is_scope : goal.push_scope-returns-then-not-is_scope
push_scope-returns-then-not-is_scope t c =
    let old = map placed_view c.args.out.now.items in
    sym (append-nil old)
    ∙ ap (λ b. old ++ cond b (placed_in c.args.around.now.items c.args.unreachable (meaning c.args.ctx.now c.args.op.now)) []) (sym c.if-not-is_scope.true ∙ c.is_scope.ensures)

pub push_region-loop-op-preserved : goal.push_region-loop-op-preserved
push_region-loop-op-preserved t c =
    let xs = c.deref-op-items.result.now in
    let inner = c.in_ok-inner.inner.items in
    let o = meaning c.args.ctx.now c.op-item.result in
    let todo = λ (n : ℕ) (xs : List Op). placed_under inner c.args.unreachable (ops_meaning c.args.ctx.now xs) in
    made_next todo xs c.loop-op.op-index c.op-item.result (cond (is_scope (head o)) (placed_in inner c.args.unreachable o) [])
    (map placed_view c.loop-op.out.items) (map placed_view c.push_scope.new.out.items) (map placed_view c.push_block.new.out.items ++ todo 0 xs)
    c.loop-op-test.true c.op-item.is c.in_ok-push_scope.ensures refl c.loop-op.invariant

pub push_region-returns-after-loop-op : goal.push_region-returns-after-loop-op
push_region-returns-after-loop-op t c =
    let xs = c.deref-op-items.result.now in
    let inner = c.in_ok-inner.inner.items in
    let around = c.args.around.now.items in
    let todo = λ (n : ℕ) (xs : List Op). placed_under inner c.args.unreachable (ops_meaning c.args.ctx.now xs) in
    let first : List PlacedBlock = record { label = c.args.own; around = around; unreachable = c.args.unreachable; names = named_in (ops_meaning c.args.ctx.now c.in-Block.ops.items) } ∷ [] in
    let all = made_all todo xs c.loop-op.op-index (map placed_view c.loop-op.out.items) (map placed_view c.push_block.new.out.items ++ todo 0 xs) refl c.loop-op-test.false c.loop-op.invariant in
    made_after (map placed_view c.args.out.now.items) first (todo 0 xs) (map placed_view c.push_block.new.out.items) (map placed_view c.loop-op.out.items)
    (placed_in_region c.args.own around c.args.unreachable (region_meaning c.args.ctx.now c.args.region.now)) c.in_ok-inner.ensures.pushed all
    ((λ i. first ++ placed_under (c.in_ok-inner.ensures.inner i) c.args.unreachable (ops_meaning c.args.ctx.now (c.deref-op-items.ensures.value i)))
    ∙ ap (λ g. placed_in_region c.args.own around c.args.unreachable (region_meaning c.args.ctx.now g)) (sym c.in-Block.is))
