use Rattle.std.proofs.Common.{◌≡◌, ◌∙◌, ap, sym, subst, map, true}
use Rattle.std.specs.Prelude.{option_map, is_some, Result, Ok, Err, IfOk, IfSome}
use Rattle.ir_event.specs.types.Terms.{name_term}
use Rattle.ir_event.specs.types.Words.{is_table}
use Rattle.ir_event.specs.types.Things.{ContextModel}
use Rattle.ir_event.specs.tree_laws.Reads.{parent_of}
use Rattle.ir_event.specs.tree_laws.Values.{type_of_value}
use Rattle.ir_event.specs.Modules.{NodeIsOf, module_in}
use Rattle.ir_event.specs.declared.world.World.{World}
use Rattle.ir_event.proofs.Nodes.{known_node}
use Rattle.listeners_symbols.specs.Listeners.{kept_at}
use Rattle.listeners_symbols.specs.Roles.{Role, call_of}
use Rattle.listeners_symbols.specs.Table.{IsReadAs, call_meaning, head_meaning, tables_for, tree_in}
use Rattle.listeners_symbols.proofs.Gathered.{read_right, parent_kept, meaning_parent}
use Rattle.listeners_symbols.proofs.Omitted.{parents_kept}
use Rattle.listeners_symbols.proofs.gather.gather.Goals as goal

if_ok : {A E : Type 0} (P Q : A → Type 0) (r : Result A E) → ((a : A) → P a → Q a) → IfOk r P → IfOk r Q
if_ok P Q (Ok a) f h = f a h
if_ok P Q (Err e) f h = tt

all_ok : {A E : Type 0} (Q : A → Type 0) (r : Result A E) → ((a : A) → Q a) → IfOk r Q
all_ok Q (Ok a) f = f a
all_ok Q (Err e) f = tt

pub call_of-requires : goal.call_of-requires
call_of-requires c =
    let w = c.args.view.now.world.now in
    let e = c.tables_of.ensures.world in
    subst (λ (u : World). NodeIsOf u.ctx c.args.node.now) (sym e) (known_node w c.args.op c.args.node.now c.requires)

pub role_with-requires-clause-node : goal.role_with-requires-clause-node
role_with-requires-clause-node c =
    let w = c.args.view.now.world.now in
    let e = c.call_of.ensures.world ∙ c.tables_of.ensures.world in
    subst (λ (z : ContextModel). NodeIsOf z c.args.node.now) (sym (c.context-2.ensures ∙ ap (λ (u : World). u.ctx) e)) (known_node w c.args.op c.args.node.now c.requires)

pub returns-clause-parent : goal.returns-clause-parent
returns-clause-parent c =
    let w = c.args.view.now.world.now in
    all_ok _ c.role_with.result (λ _ p e.
    parent_kept (kept_at c.args.roles.now) c.args.op c.table-is_table.result (parent_of c.args.op (tree_in w)) c.in-Some.tables
    (sym c.in-Some.ensures.tables)
    p (sym (meaning_parent w.ctx c.args.op (tree_in w)) ∙ e))

pub returns-clause-role : goal.returns-clause-role
returns-clause-role c =
    let w = c.args.view.now.world.now in
    let n = c.args.node.now in
    let x = c.args.op in
    let e1 = c.tables_of.ensures.world in
    let e2 = c.context-2.ensures ∙ ap (λ (u : World). u.ctx) (c.call_of.ensures.world ∙ e1) in
    let table = kept_at c.args.roles.now in
    let tables = c.in-Some.tables in
    let types = map (λ v. type_of_value v (module_in w).tree) n.head.operands in
    let call = subst (λ (u : World). option_map (call_meaning u.ctx) c.in_ok-call.call ≡ call_of (head_meaning u.ctx n.head) (map (λ v. type_of_value v (module_in u).tree) n.head.operands)) e1 c.in_ok-call.ensures.call in
    let named : c.table-is_table.result ≡ is_table (name_term w.ctx n.head.name) = c.table-is_table.ensures ∙ (λ i. is_table (name_term (c.context.ensures i) (c.name.ensures i))) in
    let is = (λ i. tables_for table x (sym named i) (parent_of x (tree_in w))) ∙ sym c.in-Some.ensures.tables in
    if_ok _ _ c.role_with.result (λ r h.
    read_right w x n table tables r c.requires is
    (subst (λ (z : ContextModel). IsReadAs z (head_meaning z n.head) types tables r) e2
    (h types (subst (λ (z : ContextModel). option_map (call_meaning z) c.in_ok-call.call ≡ call_of (head_meaning z n.head) types) (sym e2) call))))
    c.role_with.ensures

pub returns-clause-parents : goal.returns-clause-parents
returns-clause-parents c =
    let w = c.args.view.now.world.now in
    let n = c.args.node.now in
    let e1 = c.tables_of.ensures.world in
    let e2 = c.context-2.ensures ∙ ap (λ (u : World). u.ctx) (c.call_of.ensures.world ∙ e1) in
    let table = kept_at c.args.roles.now in
    let tables = c.in-Some.tables in
    let types = map (λ v. type_of_value v (module_in w).tree) n.head.operands in
    let call = subst (λ (u : World). option_map (call_meaning u.ctx) c.in_ok-call.call ≡ call_of (head_meaning u.ctx n.head) (map (λ v. type_of_value v (module_in u).tree) n.head.operands)) e1 c.in_ok-call.ensures.call in
    if_ok _ _ c.role_with.result (λ r h.
    let read = h types (subst (λ (z : ContextModel). option_map (call_meaning z) c.in_ok-call.call ≡ call_of (head_meaning z n.head) types) (sym e2) call) in
    subst (λ o. IfSome o (λ p. is_some (table p) ≡ true)) (sym (ap (λ (z : Role). z.parent) read.is))
    (parents_kept table c.args.op c.table-is_table.result (parent_of c.args.op (tree_in w)) tables (sym c.in-Some.ensures.tables)))
    c.role_with.ensures
