use Rattle.std.proofs.Common.{◌≡◌, ◌∙◌, ap, sym, Some, None}
use Rattle.std.specs.List.{position}
use Rattle.ir_tree.specs.Tree.{head}
use Rattle.ir_tree.specs.Meaning.{meaning}
use Rattle.ir_tree_blocks.specs.Scopes.{is_scope}
use Rattle.ir_tree_blocks.specs.Form.{only_scopes}
use Rattle.ir_tree_blocks.specs.Read.{ops_meaning}
use Rattle.ir_tree_blocks.proofs.Tests.{ends_found, ends_none, rest_is}
use Rattle.ir_tree_blocks.proofs.shapes.ends_in_scopes.Goals as goal

pub returns-in-Some : goal.returns-in-Some
returns-in-Some c =
    let found : position (λ o. is_scope (head (meaning c.args.ctx.now o))) c.args.ops.now ≡ Some c.in-Some.index = sym c.first_scope.ensures ∙ c.in-Some.is in
    c.only_scopes.ensures ∙ ap (λ os. only_scopes (ops_meaning c.args.ctx.now os)) (rest_is c.args.ops.now c.in-Some.index) ∙ ends_found c.args.ctx.now c.args.ops.now c.in-Some.index found

pub returns-in-None : goal.returns-in-None
returns-in-None c =
    let none : position (λ o. is_scope (head (meaning c.args.ctx.now o))) c.args.ops.now ≡ None = sym c.first_scope.ensures ∙ c.in-None.is in
    ends_none c.args.ctx.now c.args.ops.now none
