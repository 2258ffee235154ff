-- A table of uses that is updated after events.
use Rattle.std.proofs.Common.{◌≡◌, refl, ap, sym, ◌∙◌, subst, ℕ, Bool, true, false, cond, eqb, eqb-true, List, [], ◌∷◌, ◌++◌, map, Option, Some, None, inl, inr}
use Rattle.std.specs.Prelude.{option_map}
use Rattle.std.proofs.lemmas.List.Elements.{All-cons, All-nil}
use Rattle.std.specs.FinMap as finmap
use Rattle.std.specs.List.{All}
use Rattle.ir_event.specs.types.Things.{ContextModel}
use Rattle.ir_event.specs.types.Terms.{name_term, type_term, attr_term}
use Rattle.ir_event.specs.trees.Tree.{HeadOf, OpOf, op, Op as Tree, head}
use Rattle.ir_event.specs.trees.Ids.{HasDistinctIds, find, first_of}
use Rattle.ir_event.specs.trees.Edits.{at, change_entry, change_part, with_operand}
use Rattle.ir_event.specs.tree_laws.Changes.{Takes}
use Rattle.ir_event.proofs.Operands.{holder}
use Rattle.ir_event.specs.trees.Meaning.{Operation, key_before, meaning}
use Rattle.ir_event.specs.trees.Places.{place_of, without}
use Rattle.ir_event.specs.trees.declared.place.Part.{Part}
use Rattle.ir_event.specs.trees.declared.place.Part.TheVariants.{Props, Attrs}
use Rattle.ir_event.specs.trees.declared.place.Place.{Place}
use Rattle.ir_event.specs.trees.declared.value.Value.{Value}
use Rattle.ir_event.proofs.of_trees.Mapped.{map_find}
use Rattle.ir_event.specs.tree_laws.Members.{In}
use Rattle.ir_event.specs.tree_laws.Stands.{OpWithPathOf, stands, place_in}
use Rattle.ir_event.proofs.of_tree_laws.Around.{member_of_place}
use Rattle.ir_event.proofs.of_tree_laws.Listed.{bool_cases}
use Rattle.ir_event.proofs.of_tree_laws.Members.{same_stand, stand, stand_found}
use Rattle.ir_event.specs.store.Nodes.{Node as Numbers, node_of}
use Rattle.ir_event.specs.store.Stored.{Stored, known}
use Rattle.ir_event.specs.declared.event.Event.{Event}
use Rattle.ir_event.specs.declared.event.Event.TheVariants.{Put, Take, SetOperand, SetEntry, Shift}
use Rattle.ir_event.specs.declared.row.Cell.{Cell}
use Rattle.ir_event.specs.declared.row.Cell.TheVariants.{Val, Op, Num}
use Rattle.ir_event.specs.declared.row.Row.{Row}
use Rattle.ir_event.specs.declared.subject.Subject.{Subject}
use Rattle.ir_event.specs.declared.subject.Subject.TheVariants as subject
use Rattle.ir_event.specs.Subjects.{rows_about}
use Rattle.ir_event.specs.Listener.{ShowsTaken}
use Rattle.ir_event.specs.Modules.{Module, Node, module_meaning}
use Rattle.ir_event.specs.Rows.{cell_meaning, row_meaning, rows_meaning, CellIsOf, RowIsOf, Shows}
use Rattle.ir_event.specs.Step.{Step}
use Rattle.listeners.specs.declared.key.Use.{Use}
use Rattle.listeners.specs.declared.key.UseKey.{UseKey}
use Rattle.listeners.specs.About.{about, is_use_about}
use Rattle.listeners.specs.Uses.{in_order, operand_uses, uses_in, all_uses, use_row}
use Rattle.listeners.specs.Keys.{key_of, keys_of, value_at, key_cells}
use Rattle.listeners.specs.Others.{others}
use Rattle.listeners.specs.Following.{HasNow, IsFollowed, operands_in}
use Rattle.listeners.proofs.Apart.{replaced_others, split_tree}
use Rattle.listeners.proofs.Cutting.{cut_order, edited_uses, leaf_uses, taken}
use Rattle.listeners.proofs.Others.{after_alike, cancelled, others_alike, others_twice}
use Rattle.listeners.proofs.Sorted.{value_back}
use Rattle.listeners.proofs.Places.{one_use, set_uses, mapped_uses}
use Rattle.ir_event.proofs.of_trees.Facts.{part_id, part_operands}

-- an operation at a place; the root has none
record Placed {N T A : Type 0} (x : ℕ) (t : OpOf N T A) : Type 0 where
  here : OpOf N T A
  found : find x t ≡ Some here
  id : (head here).id ≡ x
  inner : eqb (head t).id x ≡ false

placed : {N T A : Type 0} (x : ℕ) (place : Place) (t : OpOf N T A) → HasDistinctIds t → place_of x t ≡ Some place → Placed x t
placed {N} {T} {A} x place t d e =
    let m = member_of_place x place t e in
    record {
      here = m.0.here;
      found = ap (λ y. find y t) (sym m.2) ∙ stand_found t d m.0 m.1;
      id = m.2;
      inner = elim (bool_cases (eqb (head t).id x)) [
        | inr k ↦ k
        | inl k ↦ (let same : m.0 ≡ stand t [] = same_stand t d m.0 (stand t []) m.1 (root_in t) (m.2 ∙ sym (eqb-true (head t).id x k)) in
            let bad : None ≡ Some place = sym (ap (λ (s : OpWithPathOf N T A). place_in s.path) same) ∙ m.3 in
            absurd cc)
      ];
    }
  where
    root_in : (t : OpOf N T A) → In (stand t []) (stands [] t)
    root_in (op h rs) = inl refl

-- the operands that the view shows, in terms of contents
shown_operands : (c : ContextModel) (s : Stored) (x : ℕ) (o : Operation) → option_map (λ (q : Tree). node_of (meaning c q)) (known x s) ≡ Some (node_of o) → operands_in s x ≡ Some (head o).operands
shown_operands c s x o e = go (known x s) e
  where
    head_of : (q : Tree) (o : Operation) → node_of (meaning c q) ≡ node_of o → (node_of q).head.operands ≡ (head o).operands
    head_of (op h rs) (op k qs) e = ap (λ (n : Node). n.head.operands) e

    go : (q : Option Tree) → option_map (λ (q : Tree). node_of (meaning c q)) q ≡ Some (node_of o) → option_map (λ (n : Numbers). n.head.operands) (option_map node_of q) ≡ Some (head o).operands
    go None f = absurd cc
    go (Some q) f = (let one : node_of (meaning c q) ≡ node_of o = cc in ap Some (head_of q o one))

-- the view shows the operations of the store's module
shown_there : (c : ContextModel) (s : Stored) (x : ℕ) (o : Operation) → find x (meaning c s.module_of.tree) ≡ Some o → option_map (λ (q : Tree). node_of (meaning c q)) (known x s) ≡ Some (node_of o)
shown_there c s x o f = go (find x s.module_of.tree) refl
  where
    tree : Tree
    tree = s.module_of.tree

    mapped : option_map (meaning c) (find x tree) ≡ Some o
    mapped = sym (map_find (name_term c) (type_term c) (attr_term c) x tree) ∙ f

    go : (q : Option Tree) → find x tree ≡ q → option_map (λ (q : Tree). node_of (meaning c q)) (first_of q (finmap.get s.held x)) ≡ Some (node_of o)
    go None e = (let bad : None ≡ Some o = sym (ap (option_map (meaning c)) e) ∙ mapped in absurd cc)
    go (Some q) e = (let same : Some (meaning c q) ≡ Some o = sym (ap (option_map (meaning c)) e) ∙ mapped in let one : meaning c q ≡ o = cc in ap (λ (u : Operation). Some (node_of u)) one)

-- after an operation is removed, the uses by others are left
left_taken : (x : ℕ) (place : Place) (fresh : Bool) (m n : Module) → HasDistinctIds m.tree → Takes x place fresh m n → in_order (others x (uses_in m.tree)) ≡ in_order (uses_in n.tree)
left_taken x place fresh m n d takes =
    let p = placed x place m.tree d takes.there in
    let own : List Use = operand_uses x 0 (head p.here).operands in
    let cut = taken x m.tree p.here d p.found p.inner in
    let whole : in_order (uses_in m.tree) ≡ in_order (own ++ uses_in n.tree) =
    cut_order p.here m.tree (without x m.tree) cut
    ∙ ap in_order (leaf_uses p.here (uses_in (without x m.tree)) (takes.empty p.here p.found))
    ∙ (λ i. in_order (operand_uses (p.id i) 0 (head p.here).operands ++ uses_in (sym takes.left i))) in
    cancelled own (others x (uses_in m.tree)) (uses_in n.tree) (sym (split_tree x m.tree p.here d p.found) ∙ whole)

-- a table in which an operation has the operands that the tree shows, and the others have theirs
now_agrees : (x : ℕ) (t o : Operation) (before after : List Use) → HasDistinctIds t → find x t ≡ Some o → in_order (others x before) ≡ in_order (others x (uses_in t)) → HasNow x (head o).operands before after → in_order after ≡ all_uses t
now_agrees x t o before after d found rest now =
    now ∙ after_alike (operand_uses x 0 (head o).operands) (others x before) (others x (uses_in t)) rest ∙ sym (split_tree x t o d found)

-- a table that was updated after an event is that of the module after it
pub followed_agrees : (c : ContextModel) (e : Event) (s : Stored) (m : Module) (before after : List Use) → Step c e m (module_meaning c s.module_of) → ShowsTaken e m (λ x. option_map (λ (q : Tree). node_of (meaning c q)) (known x s))
    → IsFollowed (operands_in s) e before after → in_order before ≡ all_uses m.tree → in_order after ≡ all_uses (meaning c s.module_of.tree)
followed_agrees c (Put x place fresh) s m before after step shows f is =
    let n : Module = module_meaning c s.module_of in
    let p = placed x place n.tree step.after.distinct step.changes.there in
    let left : in_order (others x (uses_in n.tree)) ≡ in_order (uses_in m.tree) = left_taken x place fresh n m step.after.distinct step.changes in
    let rest : in_order (others x before) ≡ in_order (others x (uses_in n.tree)) =
    others_alike x before (uses_in m.tree) is ∙ others_alike x (uses_in m.tree) (others x (uses_in n.tree)) (sym left) ∙ ap in_order (others_twice x (uses_in n.tree)) in
    let shown : operands_in s x ≡ Some (head p.here).operands = shown_operands c s x p.here (shown_there c s x p.here p.found) in
    now_agrees x n.tree p.here before after step.after.distinct p.found rest (f (head p.here).operands shown)
followed_agrees c (Take x place fresh) s m before after step shows f is =
    let n : Module = module_meaning c s.module_of in
    f ∙ others_alike x before (uses_in m.tree) is ∙ left_taken x place fresh m n step.before.distinct step.changes
followed_agrees c (SetOperand x k old new) s m before after step shows f is =
    let n : Module = module_meaning c s.module_of in
    let r = set_uses x k old new m.tree step.before.distinct step.changes.was in
    let o = holder x k new new n.tree step.changes.is in
    let same : others x (uses_in m.tree) ≡ others x (uses_in n.tree) =
    replaced_others x (one_use old x k) (one_use new x k) (uses_in m.tree) (uses_in (with_operand x k new m.tree)) refl refl r ∙ ap (λ t. others x (uses_in t)) (sym step.changes.after) in
    let rest : in_order (others x before) ≡ in_order (others x (uses_in n.tree)) = others_alike x before (uses_in m.tree) is ∙ ap in_order same in
    let shown : operands_in s x ≡ Some (head o.here).operands = shown_operands c s x o.here (shown_there c s x o.here o.found) in
    now_agrees x n.tree o.here before after step.after.distinct o.found rest (f (head o.here).operands shown)
followed_agrees c (SetEntry x part key old new) s m before after step shows f is =
    ap in_order f
    ∙ is
    ∙ ap in_order (sym (edited_uses (at x (change_part part (change_entry key_before (name_term c key) (option_map (attr_term c) new)))) (part_id x part _) (part_operands x part _) m.tree))
    ∙ sym (ap (λ t. all_uses t) step.changes.after)
followed_agrees c (Shift x old new) s m before after step shows f is =
    let n : Module = module_meaning c s.module_of in
    let p = placed x old m.tree step.before.distinct step.changes.was in
    let q = placed x new n.tree step.after.distinct step.changes.is in
    let was = taken x m.tree p.here step.before.distinct p.found p.inner in
    let now = taken x n.tree p.here step.after.distinct (step.changes.same ∙ p.found) q.inner in
    ap in_order f
    ∙ is
    ∙ cut_order p.here m.tree (without x m.tree) was
    ∙ ap (λ t. in_order (uses_in p.here ++ uses_in t)) (sym step.changes.rest)
    ∙ sym (cut_order p.here n.tree (without x n.tree) now)

-- the row of a key is the row of its use
row_says : (c : ContextModel) (row : Row) (u : Use) → row.cells.items ≡ key_cells (key_of u) → row_meaning c row ≡ use_row u
row_says c row u is = ap (map (cell_meaning c)) is ∙ ap (λ (v : Value). use_row (record u { value = v })) (value_back u.value)

row_known : (c : ContextModel) (row : Row) (u : Use) → row.cells.items ≡ key_cells (key_of u) → RowIsOf c row
row_known c row u is =
    let value : Cell = Val (value_at (key_of u).owner (key_of u).region (key_of u).place) in
    let user : Cell = Op u.user in
    let number : Cell = Num u.operand in
    let P = CellIsOf c in
    subst (All P) (sym is) (All-cons P value (user ∷ number ∷ []) (tt {0}) (All-cons P user (number ∷ []) (tt {0}) (All-cons P number [] (tt {0}) (All-nil P))))

rows_say : (c : ContextModel) (rows : List Row) (us : List Use) → map (λ (r : Row). r.cells.items) rows ≡ map key_cells (keys_of us) → rows_meaning c rows ≡ map use_row us
rows_say c [] [] is = refl
rows_say c [] (u ∷ us) is = absurd cc
rows_say c (r ∷ rs) [] is = absurd cc
rows_say c (r ∷ rs) (u ∷ us) is =
    let one : r.cells.items ≡ key_cells (key_of u) = cc in
    let rest : map (λ (r : Row). r.cells.items) rs ≡ map key_cells (keys_of us) = cc in
    λ i. row_says c r u one i ∷ rows_say c rs us rest i

rows_known : (c : ContextModel) (rows : List Row) (us : List Use) → map (λ (r : Row). r.cells.items) rows ≡ map key_cells (keys_of us) → All (RowIsOf c) rows
rows_known c [] us is = All-nil (RowIsOf c)
rows_known c (r ∷ rs) [] is = absurd cc
rows_known c (r ∷ rs) (u ∷ us) is =
    let one : r.cells.items ≡ key_cells (key_of u) = cc in
    let rest : map (λ (r : Row). r.cells.items) rs ≡ map key_cells (keys_of us) = cc in
    All-cons (RowIsOf c) r rs (row_known c r u one) (rows_known c rs us rest)

-- the rows of a table are those of the uses
pub rows_show : (c : ContextModel) (rows : List Row) (keys : List UseKey) (us : List Use) → map (λ (r : Row). r.cells.items) rows ≡ map key_cells keys → keys ≡ keys_of us → Shows c rows (map use_row us)
rows_show c rows keys us is kept = let e = is ∙ ap (map key_cells) kept in record { says = rows_say c rows us e; known = rows_known c rows us e }

-- the uses of a tree of numbers are those of its tree of terms
pub meaning_uses : (c : ContextModel) (t : Tree) → all_uses (meaning c t) ≡ all_uses t
meaning_uses c t = ap in_order (mapped_uses (name_term c) (type_term c) (attr_term c) t)

-- the rows about a subject are those of the uses about it
about_rows : (s : Subject) (us : List Use) → rows_about s (map use_row us) ≡ map use_row (about s us)
about_rows s [] = refl
about_rows s (u ∷ us) = same_test s u ∙ elim (is_use_about s u) as (λ b. cond b (use_row u ∷ rows_about s (map use_row us)) (rows_about s (map use_row us)) ≡ map use_row (cond b (u ∷ about s us) (about s us))) [
  | true ↦ ap (λ l. use_row u ∷ l) (about_rows s us)
  | false ↦ about_rows s us
]
  where
    same_test : (s : Subject) (u : Use) → rows_about s (use_row u ∷ map use_row us) ≡ cond (is_use_about s u) (use_row u ∷ rows_about s (map use_row us)) (rows_about s (map use_row us))
    same_test (subject.Op x) u = refl
    same_test (subject.Val v) u = refl

pub rows_show_about : (c : ContextModel) (s : Subject) (t : Tree) (rows : List Row) → map (λ (r : Row). r.cells.items) rows ≡ map key_cells (keys_of (about s (all_uses t))) → Shows c rows (rows_about s (map use_row (all_uses (meaning c t))))
rows_show_about c s t rows is =
    subst (Shows c rows) (sym (about_rows s (all_uses (meaning c t))))
    (rows_show c rows (keys_of (about s (all_uses t))) (about s (all_uses (meaning c t))) is (ap (λ l. keys_of (about s l)) (sym (meaning_uses c t))))
