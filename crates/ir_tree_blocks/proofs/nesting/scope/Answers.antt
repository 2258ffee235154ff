use Rattle.std.proofs.Common.{◌∙◌, ap, map, [], ◌∷◌}
use Rattle.ir_types.specs.Terms.{type_term}
use Rattle.ir_tree.specs.Tree.{op, region, block, no_regions}
use Rattle.ir_tree.specs.Meaning.{meaning}
use Rattle.ir_tree_blocks.specs.Scopes.{scope_head}
use Rattle.ir_tree_blocks.specs.Read.{ops_meaning}
use Rattle.ir_tree_blocks.proofs.nesting.scope.Goals as goal

pub returns : goal.returns
unfolding scope_head
returns c =
    let ctx = c.args.all.now.ctx.now in
    let b = c.args.block.now in
    let name = c.is_name.ensures c.if-not-is_name.false in
    let key = c.is_name-2.ensures c.if-not-is_name-2.false in
    let label = c.is_label.ensures c.if-not-is_label.false in
    ap (meaning ctx) c.in_ok-scope.ensures
    ∙ (λ i. op (record { id = b.id; name = name i; operands = []; results = []; properties = []; attributes = (key i, label i) ∷ [] }) (region (block (map (type_term ctx) b.args.items) (ops_meaning ctx c.args.ops.items)) no_regions))
