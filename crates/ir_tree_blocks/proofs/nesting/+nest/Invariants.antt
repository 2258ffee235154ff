use Rattle.std.proofs.Common.{◌≡◌, ◌*◌, ◌+◌, ◌++◌, map, drop}
use Rattle.ir_tree.specs.Tree.{op_list}
use Rattle.ir_tree.specs.Meaning.{meaning}
use Rattle.ir_tree_blocks.specs.Nesting.{scopes_of}
use Rattle.ir_tree_blocks.specs.Nested.{layout_among, layout_inside, nested_view}
use Rattle.ir_tree_blocks.proofs.nesting.+nest.Given as goal

abbrev pub decreases-push_below : goal.decreases-push_below
decreases-push_below l = 4 * l.spare + 3

abbrev pub decreases-push_if_below : goal.decreases-push_if_below
decreases-push_if_below l = 4 * l.spare + 2

abbrev pub decreases-push_scope : goal.decreases-push_scope
decreases-push_scope l = 4 * l.spare + 1

abbrev pub decreases-scope_below : goal.decreases-scope_below
decreases-scope_below l = 4 * l.spare + 4

abbrev pub invariant-push_below-loop-block : goal.invariant-push_below-loop-block
invariant-push_below-loop-block l =
    map (meaning l.all.ctx.now) l.out.items ++ op_list (scopes_of (map (nested_view l.all.ctx.now) l.all.blocks.now.items) (layout_among (layout_inside l.all.blocks.now.items l.spare) l.parent (drop l.block-index l.block-items)))
    ≡ map (meaning l.all.ctx.now) l.initial.out.items ++ op_list (scopes_of (map (nested_view l.all.ctx.now) l.all.blocks.now.items) (layout_among (layout_inside l.all.blocks.now.items l.spare) l.parent l.block-items))
