-- The role read by reading calls is the operation's role.
use Rattle.std.proofs.Common.{◌≡◌, refl, ap, sym, ◌∙◌, subst, ℕ, Bool, true, false, cond, eqb, List, [], ◌∷◌, map, Option, Some, None}
use Rattle.std.specs.Prelude.{option_map, is_some}
use Rattle.std.specs.List.{IsDistinct}
use Rattle.std.specs.FinMap as finmap
use Rattle.ir_event.specs.types.Things.{ContextModel}
use Rattle.ir_event.specs.types.Terms.{TypeTerm, AttrTerm, name_term, type_term, attr_term}
use Rattle.ir_event.specs.types.Words.{is_table}
use Rattle.ir_event.specs.trees.declared.place.Place.{Place}
use Rattle.ir_event.specs.trees.Tree.{Op, op, head}
use Rattle.ir_event.specs.trees.Ids.{HasDistinctIds, find, first_of}
use Rattle.ir_event.specs.trees.Places.{place_of}
use Rattle.ir_event.specs.trees.Meaning.{Operation, meaning}
use Rattle.ir_event.proofs.of_trees.Mapped.{map_find, map_place, map_ids}
use Rattle.listeners_support.specs.Nodes.{Node, node_of}
use Rattle.listeners_support.specs.Stored.{known}
use Rattle.ir_event.specs.tree_laws.Reads.{parent_of}
use Rattle.ir_event.specs.tree_laws.Values.{type_of_value}
use Rattle.ir_event.specs.tree_laws.Stands.{StepOf, op_with_path_id, stands, op_with_path, table_in, place_in}
use Rattle.ir_event.specs.tree_laws.Members.{In}
use Rattle.ir_event.proofs.of_tree_laws.Members.{stand, stand_of_member, same_stand, stand_found}
use Rattle.ir_event.proofs.of_tree_laws.Around.{around_there, member_of_place, place_of_member, present_stand}
use Rattle.ir_event.specs.declared.world.World.{World}
use Rattle.ir_event.specs.Modules.{module_in}
use Rattle.listeners_support.proofs.Reading.{head_shown}
use Rattle.listeners_symbols.specs.declared.role.Role.{Role as Numbers}
use Rattle.listeners_symbols.specs.declared.role.Tables.{Tables}
use Rattle.listeners_symbols.specs.Roles.{Head, OpWithPath, Role, parent_in, home_of, table_at, role_from, role, role_of}
use Rattle.listeners_symbols.specs.Table.{Table, Says, IsRight, IsReadAs, head_meaning, role_meaning, tables_in, tables_for, tree_in}

pub meaning_distinct : (c : ContextModel) (t : Op) → HasDistinctIds t → HasDistinctIds (meaning c t)
meaning_distinct c t d = subst (IsDistinct eqb) (sym (map_ids (name_term c) (type_term c) (attr_term c) t)) d

pub meaning_parent : (c : ContextModel) (x : ℕ) (t : Op) → parent_of x (meaning c t) ≡ parent_of x t
meaning_parent c x t = ap (option_map (λ (p : Place). p.parent)) (map_place (name_term c) (type_term c) (attr_term c) x t)

head_meant : (c : ContextModel) (o : Op) → head (meaning c o) ≡ head_meaning c (head o)
head_meant c (op h rs) = refl

-- the head of an operation that the view shows
pub shown_head : (w : World) (x : ℕ) (n : Node) (o : Operation) → option_map node_of (known x w.store) ≡ Some n → find x (module_in w).tree ≡ Some o → head o ≡ head_meaning w.ctx n.head
shown_head w x n o shown is = go (find x w.store.module_of.tree) refl (sym (map_find (name_term w.ctx) (type_term w.ctx) (attr_term w.ctx) x w.store.module_of.tree) ∙ is)
  where
    go : (q : Option Op) → find x w.store.module_of.tree ≡ q → option_map (meaning w.ctx) q ≡ Some o → head o ≡ head_meaning w.ctx n.head
    go None e h = absurd cc
    go (Some p) e h =
        let one : meaning w.ctx p ≡ o = cc in
        let two : Some (node_of p) ≡ Some n = sym (ap (λ q. option_map node_of (first_of q (finmap.get w.store.held x))) e) ∙ shown in
        let three : node_of p ≡ n = cc in
        ap head (sym one) ∙ head_meant w.ctx p ∙ ap (head_meaning w.ctx) (sym (head_shown p) ∙ ap (λ (z : Node). z.head) three)

-- ---- tables
no_place : (t : Operation) → HasDistinctIds t → (s : OpWithPath) → In s (stands [] t) → s.path ≡ [] → place_of (op_with_path_id s) t ≡ None
no_place t d s h e = go (place_of (op_with_path_id s) t) refl
  where
    go : (o : Option Place) → place_of (op_with_path_id s) t ≡ o → place_of (op_with_path_id s) t ≡ None
    go None f = f
    go (Some l) f =
        let u = member_of_place (op_with_path_id s) l t f in
        let same = same_stand t d u.0 s u.1 h u.2 in
        let no : None ≡ Some l = sym (ap place_in (ap (λ (z : OpWithPath). z.path) same ∙ e)) ∙ u.3 in
        absurd cc

pub parent_placed : (t : Operation) → HasDistinctIds t → (s : OpWithPath) → In s (stands [] t) → (a : StepOf (List ℕ) TypeTerm AttrTerm) (q : List (StepOf (List ℕ) TypeTerm AttrTerm)) → s.path ≡ a ∷ q → (parent_of (op_with_path_id s) t ≡ Some (head a.parent).id) × In (stand a.parent q) (stands [] t)
parent_placed t d s h a q e =
    let there : In (stand s.here (a ∷ q)) (stands [] t) = subst (λ z. In (stand s.here z) (stands [] t)) e h in
    (ap (option_map (λ (p : Place). p.parent)) (place_of_member t d s.here a q there), (around_there t s.here a q there).1)

-- the operation as the symbol table, or else its own symbol table
table_above : (h : Head) (q : List (StepOf (List ℕ) TypeTerm AttrTerm)) → cond (is_table h.name) (Some h.id) (table_in is_table q) ≡ cond (is_table h.name) (Some h.id) (table_at h q)
table_above h [] = elim (is_table h.name) as (λ b. cond b (Some h.id) None ≡ cond b (Some h.id) (cond b (Some h.id) None)) [ true ↦ refl | false ↦ refl ]
table_above h (a ∷ q) = refl

tables_right : (c : ContextModel) (t : Operation) → HasDistinctIds t → (s : OpWithPath) → In s (stands [] t) → (x : ℕ) → op_with_path_id s ≡ x → (table : Table) (tables : Tables)
    → ((p : ℕ) → parent_of x t ≡ Some p → Says c (role_of t p) (table p)) → tables_for table x (is_table (head s.here).name) (parent_of x t) ≡ Some tables
    → (parent_in s.path ≡ tables.parent) × (home_of s.path ≡ tables.home) × (table_at (head s.here) s.path ≡ tables.table)
tables_right c t d s h x id table tables right is = at_path s.path refl
  where
    at_path : (path : List (StepOf (List ℕ) TypeTerm AttrTerm)) → s.path ≡ path → (parent_in s.path ≡ tables.parent) × (home_of s.path ≡ tables.home) × (table_at (head s.here) s.path ≡ tables.table)
    at_path [] e =
        let none : parent_of x t ≡ None = ap (λ y. parent_of y t) (sym id) ∙ ap (option_map (λ (p : Place). p.parent)) (no_place t d s h e) in
        let two : Some (record { parent = None; home = None; table = cond (is_table (head s.here).name) (Some x) None }) ≡ Some tables = sym (ap (tables_for table x (is_table (head s.here).name)) none) ∙ is in
        let one : record { parent = None; home = None; table = cond (is_table (head s.here).name) (Some x) None } ≡ tables = cc in
        (ap parent_in e ∙ ap (λ (z : Tables). z.parent) one, ap home_of e ∙ ap (λ (z : Tables). z.home) one, ap (table_at (head s.here)) e ∙ ap (λ y. cond (is_table (head s.here).name) (Some y) None) id ∙ ap (λ (z : Tables). z.table) one)
    at_path (a ∷ q) e = go (table p) refl
      where
        p : ℕ
        p = (head a.parent).id

        placed : parent_of x t ≡ Some p
        placed = ap (λ y. parent_of y t) (sym id) ∙ (parent_placed t d s h a q e).0

        go : (k : Option Numbers) → table p ≡ k → (parent_in s.path ≡ tables.parent) × (home_of s.path ≡ tables.home) × (table_at (head s.here) s.path ≡ tables.table)
        go None f = (let no : None ≡ Some tables = sym (ap (tables_for table x (is_table (head s.here).name)) placed ∙ ap (option_map (tables_in p)) f) ∙ is in absurd cc)
        go (Some k) f =
            let two : Some (tables_in p k) ≡ Some tables = sym (ap (tables_for table x (is_table (head s.here).name)) placed ∙ ap (option_map (tables_in p)) f) ∙ is in
            let one : tables_in p k ≡ tables = cc in
            let says : option_map (role_meaning c) (Some k) ≡ role_of t p = ap (option_map (role_meaning c)) (sym f) ∙ (right p placed).is in
            let there : role_of t p ≡ Some (role t (stand a.parent q)) = ap (option_map (role t)) (stand_of_member t d (stand a.parent q) (parent_placed t d s h a q e).1) in
            let four : Some (role_meaning c k) ≡ Some (role t (stand a.parent q)) = says ∙ there in
            let same : role_meaning c k ≡ role t (stand a.parent q) = cc in
            let is_one : k.is_table ≡ is_table (head a.parent).name = ap (λ (z : Role). z.is_table) same in
            let its : k.table ≡ table_at (head a.parent) q = ap (λ (z : Role). z.table) same in (
              ap parent_in e ∙ ap (λ (z : Tables). z.parent) one,
              ap home_of e ∙ ap (λ b. cond b (Some p) None) (sym is_one) ∙ ap (λ (z : Tables). z.home) one,
              ap (table_at (head s.here)) e ∙ table_above (head a.parent) q ∙ (λ i. cond (sym is_one i) (Some p) (sym its i)) ∙ ap (λ (z : Tables). z.table) one,
            )

pub read_right : (w : World) (x : ℕ) (n : Node) (table : Table) (tables : Tables) (r : Numbers) → option_map node_of (known x w.store) ≡ Some n
    → tables_for table x (is_table (name_term w.ctx n.head.name)) (parent_of x (tree_in w)) ≡ Some tables
    → IsReadAs w.ctx (head_meaning w.ctx n.head) (map (λ v. type_of_value v (module_in w).tree) n.head.operands) tables r
    → IsRight w.ctx (module_in w).tree x table (Some r)
read_right w x n table tables r shown is read has right =
    let c = w.ctx in
    let t = (module_in w).tree in
    let d = meaning_distinct c (tree_in w) w.wellformed.distinct in
    let z = present_stand [] t x has in
    let s = z.0 in
    let there : op_with_path x t ≡ Some s = ap (λ y. op_with_path y t) (sym z.2) ∙ stand_of_member t d s z.1 in
    let found : find x t ≡ Some s.here = ap (λ y. find y t) (sym z.2) ∙ stand_found t d s z.1 in
    let heads : head s.here ≡ head_meaning c n.head = shown_head w x n s.here shown found in
    let tabled : tables_for table x (is_table (head s.here).name) (parent_of x t) ≡ Some tables = (λ i. tables_for table x (is_table (heads i).name) (meaning_parent c x (tree_in w) i)) ∙ is in
    let both = tables_right c t d s z.1 x z.2 table tables right tabled in
    record {
      is = ap Some (read.is ∙ (λ i. role_from (sym both.0 i) (sym both.1 i) (sym both.2 i) (sym heads i) (map (λ v. type_of_value v t) (sym heads i).operands))) ∙ sym (ap (option_map (role t)) there);
      known = read.known;
    }

-- if the symbol tables of an operation are known, the table has its parent
pub parent_kept : (table : Table) (x : ℕ) (b : Bool) (o : Option ℕ) (tables : Tables) → tables_for table x b o ≡ Some tables → (p : ℕ) → o ≡ Some p → is_some (table p) ≡ true
parent_kept table x b o tables is p e = go (table p) refl
  where
    go : (k : Option Numbers) → table p ≡ k → is_some (table p) ≡ true
    go (Some k) f = ap is_some f
    go None f = (let no : None ≡ Some tables = sym (ap (tables_for table x b) e ∙ ap (option_map (tables_in p)) f) ∙ is in absurd cc)
