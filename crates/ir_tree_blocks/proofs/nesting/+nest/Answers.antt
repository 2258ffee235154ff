use Rattle.std.proofs.Common.{◌≡◌, ◌∙◌, ap, subst, map, ◌++◌, ◌∷◌, [], ◌-◌, suc, false, arith}
use Rattle.std.specs.Prelude.{IfOk}
use Rattle.ir_types.specs.Terms.{type_term}
use Rattle.ir_tree.specs.Tree.{op, op_list, region, block, no_regions}
use Rattle.ir_tree.specs.Meaning.{meaning}
use Rattle.ir_tree.proofs.Steps.{map_more}
use Rattle.ir_tree_blocks.specs.Scopes.{scope_head}
use Rattle.ir_tree_blocks.specs.Nesting.{Ops, followed_by, nested_at, scope_of, scopes_of}
use Rattle.ir_tree_blocks.specs.Nested.{layout_below, nested_view}
use Rattle.ir_tree_blocks.specs.Read.{ops_meaning}
use Rattle.ir_tree_blocks.proofs.Scoped.{inside_is, one_less}
use Rattle.ir_tree_blocks.proofs.nesting.+nest.Goals as goal

pub push_scope-returns : goal.push_scope-returns
push_scope-returns t c =
    let ctx = c.args.all.now.ctx.now in
    let all = c.args.all.now.blocks.now.items in
    let views = map (nested_view ctx) all in
    let old = map (meaning ctx) c.args.out.now.items in
    let some : c.args.spare ≡ suc (c.args.spare - 1) = omega arith in
    map_more (meaning ctx) c.args.out.now.items c.push.new.self.items c.in_ok-scope.scope c.in_ok-push.ensures.items
    ∙ ap (λ o. old ++ o ∷ [])
    (c.in_ok-scope.ensures
    ∙ (λ i. scope_of (c.in-Some.ensures.1 ctx i) false (scopes_of views (layout_below all (c.args.spare - 1) (c.in-Some.ensures.0 i))))
    ∙ ap (λ f. scope_of (nested_at views c.args.label) false (scopes_of views f)) (one_less all c.args.spare (c.args.spare - 1) c.args.label some))

pub scope_below-returns : goal.scope_below-returns
scope_below-returns t c =
    let ctx = c.args.all.now.ctx.now in
    let all = c.args.all.now.blocks.now.items in
    let b = c.args.block.now in
    let inner = scopes_of (map (nested_view ctx) all) (layout_below all c.args.spare b.label) in
    let inside : ops_meaning ctx c.push_below.new.out.items ≡ followed_by (ops_meaning ctx b.ops.items) inner =
    inside_is ctx c.push_below.new.out.items b.ops.items inner (c.in_ok-push_below.ensures ∙ ap (λ os. map (meaning ctx) os ++ op_list inner) c.in_ok-ops.ensures) in
    subst (λ (os : Ops). IfOk c.scope.result (λ o. meaning ctx o ≡ op (scope_head b.id b.label false) (region (block (map (type_term ctx) b.args.items) os) no_regions))) inside c.scope.ensures
