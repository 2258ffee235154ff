use Rattle.std.proofs.Common.{ap, map}
use Rattle.ir_types.specs.Terms.{type_term}
use Rattle.ir_tree.specs.Tree.{block}
use Rattle.ir_tree_blocks.specs.Nesting.{scopes_of}
use Rattle.ir_tree_blocks.specs.Nested.{layout_below, nested_view}
use Rattle.ir_tree_blocks.proofs.Scoped.{inside_is}
use Rattle.ir_tree_blocks.proofs.nesting.unchecked_nest.Goals as goal

pub returns : goal.returns
returns c =
    let ctx = c.args.all.now.ctx.now in
    let all = c.args.all.now.blocks.now.items in
    ap (block (map (type_term ctx) c.args.args.items)) (inside_is ctx c.push_below.new.out.items c.args.entry.items (scopes_of (map (nested_view ctx) all) (layout_below all 1024 0)) c.in_ok-push_below.ensures)
