use Rattle.std.proofs.Common.{rules, ◌≡◌, ◌∙◌, ap, sym, eqb, Some, None, insert}
use Rattle.std.specs.List.{position}
use Rattle.ir_tree.specs.Tree.{head, ops_of}
use Rattle.ir_tree.proofs.Lists.{put_before_found, put_before_none}
use Rattle.ir_tree.proofs.tree_edits.push_before.Goals as goal

pub returns-in_default : goal.returns-in_default
returns-in_default c =
    let none : position (λ p. eqb (head p).id c.args.id) c.args.ops.now.items ≡ None = search rules in
    sym (put_before_none _ _ _ none)

pub returns-in_ok-insert : goal.returns-in_ok-insert
returns-in_ok-insert c =
    let found : position (λ p. eqb (head p).id c.args.id) c.args.ops.now.items ≡ Some c.in-Some.index = search rules in
    let new : c.insert.new.self.items ≡ insert c.args.ops.now.items c.in-Some.index c.args.op.now = search rules in
    ap ops_of new ∙ sym (put_before_found _ _ _ _ found)
