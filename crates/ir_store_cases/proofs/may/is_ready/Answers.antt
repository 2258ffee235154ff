use Rattle.std.proofs.Common.{rules, ◌≡◌, sym, ap, ◌∙◌, Some, false}
use Rattle.std.specs.Prelude.{is_some, option_map}
use Rattle.std.specs.List.{list_all}
use Rattle.ir_tree.specs.Tree.{Head, Op, head}
use Rattle.ir_tree.specs.Ids.{has_id}
use Rattle.ir_tree_laws.specs.Values.{has_value}
use Rattle.ir_store.specs.Nodes.{node_of}
use Rattle.ir_store.specs.Stored.{known}
use Rattle.ir_store_cases.proofs.Held.{held_known, same_held}
use Rattle.ir_store_cases.proofs.may.is_ready.Goals as goal

pub returns-in-Some-clause-held : goal.returns-in-Some-clause-held
returns-in-Some-clause-held c =
    let s = c.args.store.now in
    let out : has_id c.args.op s.module_of.tree ≡ false = search rules in
    let there : Some c.in-Some.node ≡ option_map node_of (known c.args.op s) = search rules in
    λ b. ap is_some (held_known c.args.op s c.in-Some.node out there).1

pub returns-in-Some-clause-values : goal.returns-in-Some-clause-values
returns-in-Some-clause-values c =
    let s = c.args.store.now in
    let out : has_id c.args.op s.module_of.tree ≡ false = search rules in
    let there : Some c.in-Some.node ≡ option_map node_of (known c.args.op s) = search rules in
    let k = held_known c.args.op s c.in-Some.node out there in
    λ b o f.
    ap (λ (z : Op). list_all (λ v. has_value v s.module_of.tree) (head z).operands) (same_held o k.0 _ f k.1)
    ∙ ap (λ (h : Head). list_all (λ v. has_value v s.module_of.tree) h.operands) (sym k.2)
    ∙ sym (ap (list_all (λ v. has_value v s.module_of.tree)) c.operands.ensures)
    ∙ sym c.has_values.ensures
    ∙ b
