use Rattle.std.proofs.Common.{rules, ◌≡◌, ◌∙◌, ap, sym, eqb, not, filter}
use Rattle.std.proofs.lemmas.Fn.{filter_same}
use Rattle.ir_tree.specs.Tree.{head, ops_of}
use Rattle.ir_tree.proofs.Lists.{drop_op_of}
use Rattle.ir_tree.proofs.tree_edits.RemovalListEdit.apply.Goals as goal

pub returns : goal.returns
returns c =
    let kept : c.retain.new.self.items ≡ filter (λ o. not (eqb (head o).id c.args.self.now.op)) c.args.ops.now.items = filter_same _ _ _ (λ x b f k. search rules) _ _ c.retain.ensures.filtered in
    ap ops_of kept ∙ sym (drop_op_of c.args.self.now.op c.args.ops.now.items)
