-- An event changes only the role of the event's operation.
use Rattle.std.proofs.Common.{◌≡◌, refl, ap, sym, ◌∙◌, subst, ℕ, ◌+◌, true, false, true≢false, cond, eqb, eq-eqb, eqb-true, List, [], ◌∷◌, ◌++◌, map, Option, Some, None, inl, inr, ◌⊎◌}
use Rattle.std.specs.Prelude.{option_map, option_and_then}
use Rattle.ir_event.specs.types.Things.{ContextModel}
use Rattle.ir_event.specs.types.Terms.{TypeTerm, AttrTerm}
use Rattle.ir_event.specs.types.Words.{is_table}
use Rattle.ir_event.specs.trees.declared.value.Value.{Value}
use Rattle.ir_event.specs.trees.declared.place.Part.{Part}
use Rattle.ir_event.specs.trees.declared.place.Part.TheVariants.{Props, Attrs}
use Rattle.ir_event.specs.trees.Tree.{op, RegionsOf, no_regions, region, RegionOf, empty, block, OpsOf, no_ops, next, head, regions}
use Rattle.ir_event.specs.trees.Ids.{HasDistinctIds, find}
use Rattle.ir_event.specs.trees.Uses.{uses_of}
use Rattle.ir_event.specs.trees.Edits.{each_head, regions_each_head, at, put_operand, change_part}
use Rattle.ir_event.specs.trees.Frames.{owner_of}
use Rattle.ir_event.specs.trees.Places.{without}
use Rattle.ir_event.specs.trees.Meaning.{Operation}
use Rattle.listeners_support.specs.Nodes.{node_of, regions_arguments}
use Rattle.ir_event.specs.tree_laws.Changes.{HoldNone}
use Rattle.ir_event.specs.tree_laws.Values.{type_of_value}
use Rattle.ir_event.specs.tree_laws.Tables.{table_of}
use Rattle.ir_event.specs.tree_laws.Stands.{StepOf, op_with_path_id, stands, regions_stands, region_stands, ops_stands, find_op_with_path, op_with_path, table_in, is_gone, left_step, left_stand, edit_step, edit_stand}
use Rattle.ir_event.specs.tree_laws.Members.{In}
use Rattle.ir_event.proofs.of_tree_laws.Listed.{bool_cases, in_left, in_right, in_parts}
use Rattle.ir_event.proofs.of_tree_laws.Readings.{step, stands_find, stands_table}
use Rattle.ir_event.proofs.of_tree_laws.Members.{stand, itself, within, member, stand_found, found_stands, stand_of_member}
use Rattle.ir_event.proofs.of_tree_laws.Around.{Within, gone_within}
use Rattle.ir_event.proofs.of_tree_laws.Without.{left_member, member_left}
use Rattle.ir_event.proofs.of_tree_laws.Heads.{each_stands}
use Rattle.ir_event.specs.declared.event.Event.{Event}
use Rattle.ir_event.specs.declared.event.Event.TheVariants.{Put, Take, SetOperand, SetEntry, Shift}
use Rattle.ir_event.specs.Bounds.{op_of}
use Rattle.ir_event.specs.Modules.{Module}
use Rattle.ir_event.specs.Step.{Step}
use Rattle.ir_event.proofs.Typed.{types_of, typed, typed_value}
use Rattle.listeners_support.proofs.Operands.{same_map, not_used}
use Rattle.listeners_support.proofs.Left.{left_head, left_node}
use Rattle.listeners_support.proofs.Alike.{Both, neither, each, both, same_value_type}
use Rattle.listeners_support.proofs.Moves.{left_id, taken}
use Rattle.listeners_support.proofs.Heads.{Keeps}
use Rattle.listeners_symbols.specs.Roles.{Head, OpWithPath, parent_in, home_of, table_at, symbol_of, name_of, is_private, references_of, signature_of, callee_of, call_of, role_from, role, role_of}
use Rattle.ir_event.proofs.of_types.Truths.{unlike}

abbrev Step_in : Type 0
Step_in = StepOf (List ℕ) TypeTerm AttrTerm

abbrev Path : Type 0
Path = List Step_in

-- two operations with the same roles, if their operands have the same types
pub record AlikeRoles (s r : OpWithPath) : Type 0 where
  pub heads : head s.here ≡ head r.here
  pub parent : parent_in s.path ≡ parent_in r.path
  pub home : home_of s.path ≡ home_of r.path
  pub table : table_at (head s.here) s.path ≡ table_at (head r.here) r.path

flip : (s r : OpWithPath) → AlikeRoles s r → AlikeRoles r s
flip s r a = record { heads = sym a.heads; parent = sym a.parent; home = sym a.home; table = sym a.table }

chain : (s r u : OpWithPath) → AlikeRoles s r → AlikeRoles r u → AlikeRoles s u
chain s r u a b = record { heads = a.heads ∙ b.heads; parent = a.parent ∙ b.parent; home = a.home ∙ b.home; table = a.table ∙ b.table }

same_roles : (y : ℕ) (t u : Operation) → Both AlikeRoles y t u → ((s : OpWithPath) → In s (stands [] t) → op_with_path_id s ≡ y → (v : Value) → In v (head s.here).operands → type_of_value v t ≡ type_of_value v u) → role_of t y ≡ role_of u y
same_roles y t u (neither i j) f = ap (option_map (role t)) i ∙ sym (ap (option_map (role u)) j)
same_roles y t u (each s r m i j a) f =
    let id = (member y (stands [] t) s i).1 in
    let types : map (λ v. type_of_value v t) (head s.here).operands ≡ map (λ v. type_of_value v u) (head r.here).operands =
    same_map (λ v. type_of_value v t) (λ v. type_of_value v u) (head s.here).operands (f s m id) ∙ ap (λ (h : Head). map (λ v. type_of_value v u) h.operands) a.heads in
    let same : role t s ≡ role u r = (λ k. role_from (a.parent k) (a.home k) (a.table k) (a.heads k) (types k)) in
    ap (option_map (role t)) i ∙ ap Some same ∙ sym (ap (option_map (role u)) j)

-- ---- an operation of a tree from which another was removed
module _ (x : ℕ) where
  parent_left : (path : Path) → parent_in (map (left_step x) path) ≡ parent_in path
  parent_left [] = refl
  parent_left (a ∷ q) = ap (λ (h : Head). Some h.id) (left_head x a.parent)

  home_left : (path : Path) → home_of (map (left_step x) path) ≡ home_of path
  home_left [] = refl
  home_left (a ∷ q) = ap (λ (h : Head). cond (is_table h.name) (Some h.id) None) (left_head x a.parent)

  table_in_left : (path : Path) → table_in is_table (map (left_step x) path) ≡ table_in is_table path
  table_in_left [] = refl
  table_in_left (a ∷ q) = λ i. cond (is_table (left_head x a.parent i).name) (Some (left_head x a.parent i).id) (table_in_left q i)

  table_left : (h : Head) (path : Path) → table_at h (map (left_step x) path) ≡ table_at h path
  table_left h [] = refl
  table_left h (a ∷ q) = table_in_left (a ∷ q)

  left_alike : (s : OpWithPath) → AlikeRoles (left_stand x s) s
  left_alike s = record { heads = left_head x s.here; parent = parent_left s.path; home = home_left s.path; table = ap (λ h. table_at h (map (left_step x) s.path)) (left_head x s.here) ∙ table_left (head s.here) s.path }

  module _ (t w : Operation) (d : HasDistinctIds t) (e : HasDistinctIds w) (is : w ≡ without x t) (bare : (o : Operation) → find x t ≡ Some o → HoldNone (regions o)) where
    untaken : (z : ℕ) (r : OpWithPath) → In r (stands [] w) → op_with_path_id r ≡ z → (s : OpWithPath) × In s (stands [] t) × (op_with_path_id s ≡ z)
    untaken z r h i = let b = member_left x t r (subst (λ u. In r (stands [] u)) is h) in (b.0, b.1, sym (left_id x b.0) ∙ ap (λ (s : OpWithPath). op_with_path_id s) (sym b.3) ∙ i)

    nodes_taken : (z : ℕ) → (z ≡ x → ⊥) → Both (λ s r. node_of s.here ≡ node_of r.here) z t w
    nodes_taken z apart = both (λ s r. node_of s.here ≡ node_of r.here) z t w d e (λ s h i. (left_stand x s, taken x t w d e is bare s h (λ k. apart (sym i ∙ k)), left_id x s ∙ i, sym (left_node x s.here))) (untaken z)

    taken_far : ((v : Value) → (owner_of v).0 ≡ x → uses_of v t ≡ []) → (y : ℕ) → (y ≡ x → ⊥) → role_of w y ≡ role_of t y
    taken_far unused y apart =
        sym (same_roles y t w
        (both AlikeRoles y t w d e (λ s h i. (left_stand x s, taken x t w d e is bare s h (λ k. apart (sym i ∙ k)), left_id x s ∙ i, flip (left_stand x s) s (left_alike s))) (untaken y))
        (λ s h i v k. same_value_type v t w (nodes_taken (owner_of v).0 (λ j. not_used v s t (unused v j) h k))))

-- ---- a tree with heads changed
module _ (g : Head → Head) (keeps : (h : Head) → Keeps (g h) h) where
  each_is : (o : Operation) → head (each_head g o) ≡ g (head o)
  each_is (op h rs) = refl

  each_id : (o : Operation) → (head (each_head g o)).id ≡ (head o).id
  each_id (op h rs) = (keeps h).id

  each_name : (o : Operation) → (head (each_head g o)).name ≡ (head o).name
  each_name (op h rs) = (keeps h).name

  each_arguments : (rs : RegionsOf (List ℕ) TypeTerm AttrTerm) → regions_arguments (regions_each_head g rs) ≡ regions_arguments rs
  each_arguments no_regions = refl
  each_arguments (region empty rs) = ap (λ l. None ∷ l) (each_arguments rs)
  each_arguments (region (block args os) rs) = ap (λ l. Some args ∷ l) (each_arguments rs)

  each_types : (o : Operation) → types_of (each_head g o) ≡ types_of o
  each_types (op h rs) = λ i. ((keeps h).results i, each_arguments rs i)

  stand_each : (x : ℕ) (ss : List OpWithPath) → find_op_with_path x (map (edit_stand g) ss) ≡ option_map (edit_stand g) (find_op_with_path x ss)
  stand_each x [] = refl
  stand_each x (s ∷ ss) =
      (λ i. cond (eqb (each_id s.here i) x) (Some (edit_stand g s)) (stand_each x ss i))
      ∙ elim (eqb (op_with_path_id s) x) as (λ b. cond b (Some (edit_stand g s)) (option_map (edit_stand g) (find_op_with_path x ss)) ≡ option_map (edit_stand g) (cond b (Some s) (find_op_with_path x ss))) [ true ↦ refl | false ↦ refl ]

  stand_of_each : (x : ℕ) (t : Operation) → op_with_path x (each_head g t) ≡ option_map (edit_stand g) (op_with_path x t)
  stand_of_each x t = ap (find_op_with_path x) (each_stands g [] t) ∙ stand_each x (stands [] t)

  here_each : (o : Option OpWithPath) → option_map types_of (option_map (λ (s : OpWithPath). s.here) (option_map (edit_stand g) o)) ≡ option_map types_of (option_map (λ (s : OpWithPath). s.here) o)
  here_each None = refl
  here_each (Some s) = ap Some (each_types s.here)

  types_each : (v : Value) (t : Operation) → type_of_value v (each_head g t) ≡ type_of_value v t
  types_each v t =
      let x = (owner_of v).0 in
      typed_value v (each_head g t)
      ∙ ap (λ o. option_and_then (typed v) (option_map types_of o)) (sym (stands_find x [] (each_head g t)))
      ∙ ap (λ o. option_and_then (typed v) (option_map types_of (option_map (λ (s : OpWithPath). s.here) o))) (stand_of_each x t)
      ∙ ap (option_and_then (typed v)) (here_each (op_with_path x t))
      ∙ ap (λ o. option_and_then (typed v) (option_map types_of o)) (stands_find x [] t)
      ∙ sym (typed_value v t)

  parent_each : (path : Path) → parent_in (map (edit_step g) path) ≡ parent_in path
  parent_each [] = refl
  parent_each (a ∷ q) = ap Some (each_id a.parent)

  home_each : (path : Path) → home_of (map (edit_step g) path) ≡ home_of path
  home_each [] = refl
  home_each (a ∷ q) = λ i. cond (is_table (each_name a.parent i)) (Some (each_id a.parent i)) None

  table_in_each : (path : Path) → table_in is_table (map (edit_step g) path) ≡ table_in is_table path
  table_in_each [] = refl
  table_in_each (a ∷ q) = λ i. cond (is_table (each_name a.parent i)) (Some (each_id a.parent i)) (table_in_each q i)

  table_each : (h : Head) (path : Path) → table_at h (map (edit_step g) path) ≡ table_at h path
  table_each h [] = refl
  table_each h (a ∷ q) = table_in_each (a ∷ q)

  each_far : (m n : Operation) → n ≡ each_head g m → (y : ℕ) → ((h : Head) → h.id ≡ y → g h ≡ h) → role_of n y ≡ role_of m y
  each_far m n is y other = go (op_with_path y m) refl
    where
      there : op_with_path y n ≡ option_map (edit_stand g) (op_with_path y m)
      there = ap (op_with_path y) is ∙ stand_of_each y m

      go : (o : Option OpWithPath) → op_with_path y m ≡ o → role_of n y ≡ role_of m y
      go None e = ap (option_map (role n)) (there ∙ ap (option_map (edit_stand g)) e) ∙ sym (ap (option_map (role m)) e)
      go (Some s) e =
          let id = (member y (stands [] m) s e).1 in
          let heads : head (each_head g s.here) ≡ head s.here = each_is s.here ∙ other (head s.here) id in
          let around = parent_each s.path in
          let home = home_each s.path in
          let table : table_at (head (each_head g s.here)) (map (edit_step g) s.path) ≡ table_at (head s.here) s.path = ap (λ h. table_at h (map (edit_step g) s.path)) heads ∙ table_each (head s.here) s.path in
          let one : (v : Value) → type_of_value v n ≡ type_of_value v m = (λ v. ap (type_of_value v) is ∙ types_each v m) in
          let same : role n (edit_stand g s) ≡ role m s = (λ i. role_from (around i) (home i) (table i) (heads i) (map (λ v. one v i) (heads i).operands)) in
          ap (option_map (role n)) (there ∙ ap (option_map (edit_stand g)) e) ∙ ap Some same ∙ sym (ap (option_map (role m)) e)

-- ---- an operation moved with its subtree
abbrev Again : OpWithPath → List OpWithPath → Type 0
Again s us = (u : OpWithPath) × In u us × (u.here ≡ s.here) × (parent_in u.path ≡ parent_in s.path) × (home_of u.path ≡ home_of s.path) × (table_at (head s.here) u.path ≡ table_at (head s.here) s.path)

more : (s : OpWithPath) (us vs : List OpWithPath) → ((z : OpWithPath) → In z us → In z vs) → Again s us → Again s vs
more s us vs f w = (w.0, f w.0 w.1, w.2, w.3, w.4, w.5)

under : (a : Step_in) (b c : Path) → table_in is_table b ≡ table_in is_table c → table_in is_table (a ∷ b) ≡ table_in is_table (a ∷ c)
under a b c e = ap (cond (is_table (head a.parent).name) (Some (head a.parent).id)) e

-- an operation inside another one keeps its path there, and its symbol tables, if the outer operation has the same
-- symbol table
mutual
  again : (b c : Path) → table_in is_table b ≡ table_in is_table c → (t : Operation) (s : OpWithPath) → In s (stands b t) → (s ≡ stand t b) ⊎ Again s (stands c t)
  again b c j (op h rs) s (inl e) = inl e
  again b c j (op h rs) s (inr k) = inr (more s (regions_stands (op h rs) c 0 rs) (stands c (op h rs)) (λ z m. inr m) (regions_again (op h rs) b c j 0 rs s k))

  regions_again : (p : Operation) (b c : Path) → table_in is_table b ≡ table_in is_table c → (r : ℕ) (rs : RegionsOf (List ℕ) TypeTerm AttrTerm) (s : OpWithPath) → In s (regions_stands p b r rs) → Again s (regions_stands p c r rs)
  regions_again p b c j r no_regions s k = absurd k
  regions_again p b c j r (region g rs) s k =
      let xs = region_stands p c r g in
      let ys = regions_stands p c (r + 1) rs in
      elim (in_parts s (region_stands p b r g) (regions_stands p b (r + 1) rs) k) [
        | inl l ↦ more s xs (xs ++ ys) (λ z m. in_left z xs ys m) (region_again p b c j r g s l)
        | inr l ↦ more s ys (xs ++ ys) (λ z m. in_right z xs ys m) (regions_again p b c j (r + 1) rs s l)
      ]

  region_again : (p : Operation) (b c : Path) → table_in is_table b ≡ table_in is_table c → (r : ℕ) (g : RegionOf (List ℕ) TypeTerm AttrTerm) (s : OpWithPath) → In s (region_stands p b r g) → Again s (region_stands p c r g)
  region_again p b c j r empty s k = absurd k
  region_again p b c j r (block args os) s k = ops_again p b c j r args [] os s k

  ops_again : (p : Operation) (b c : Path) → table_in is_table b ≡ table_in is_table c → (r : ℕ) (args : List TypeTerm) (preceding : List Operation) (os : OpsOf (List ℕ) TypeTerm AttrTerm) (s : OpWithPath)
      → In s (ops_stands p b r args preceding os) → Again s (ops_stands p c r args preceding os)
  ops_again p b c j r args preceding no_ops s k = absurd k
  ops_again p b c j r args preceding (next o os) s k =
      let a = step p r args preceding os in
      let xs = stands (a ∷ c) o in
      let ys = ops_stands p c r args (preceding ++ o ∷ []) os in
      elim (in_parts s (stands (a ∷ b) o) (ops_stands p b r args (preceding ++ o ∷ []) os) k) [
        | inl l ↦ elim (again (a ∷ b) (a ∷ c) (under a b c j) o s l) [
          | inl e ↦ (
            stand o (a ∷ c),
            in_left (stand o (a ∷ c)) xs ys (itself (a ∷ c) o),
            ap (λ (z : OpWithPath). z.here) (sym e),
            ap (λ (z : OpWithPath). parent_in z.path) (sym e),
            ap (λ (z : OpWithPath). home_of z.path) (sym e),
            sym (under a b c j) ∙ ap (λ (z : OpWithPath). table_at (head s.here) z.path) (sym e),
          )
          | inr w ↦ more s xs (xs ++ ys) (λ z m. in_left z xs ys m) w
        ]
        | inr l ↦ more s ys (xs ++ ys) (λ z m. in_right z xs ys m) (ops_again p b c j r args (preceding ++ o ∷ []) os s l)
      ]

-- a moved operation
record Moved (s r : OpWithPath) : Type 0 where
  id : op_with_path_id r ≡ op_with_path_id s
  alike : AlikeRoles s r
  node : node_of s.here ≡ node_of r.here

module _ (x : ℕ) (t u : Operation) (d : HasDistinctIds t) (e : HasDistinctIds u) (is : without x t ≡ without x u) (same : find x t ≡ find x u) (tables : table_of is_table x t ≡ table_of is_table x u) where
  moved : (s : OpWithPath) → In s (stands [] t) → (op_with_path_id s ≡ x → ⊥) → (r : OpWithPath) × In r (stands [] u) × Moved s r
  moved s h apart = elim (bool_cases (is_gone x s)) [
    | inr k ↦ (let b = member_left x u (left_stand x s) (subst (λ z. In (left_stand x s) (stands [] z)) is (left_member x t s h k)) in
        let two : AlikeRoles (left_stand x s) b.0 = subst (λ z. AlikeRoles z b.0) (sym b.3) (left_alike x b.0) in (
          b.0,
          b.1,
          record {
            id = sym (left_id x b.0) ∙ ap (λ (z : OpWithPath). op_with_path_id z) (sym b.3) ∙ left_id x s;
            alike = chain s (left_stand x s) b.0 (flip (left_stand x s) s (left_alike x s)) two;
            node = sym (left_node x s.here) ∙ ap (λ (z : OpWithPath). node_of z.here) b.3 ∙ left_node x b.0.here;
          },
        ))
    | inl k ↦ inside (gone_within x t s.path s.here h k)
  ]
    where
      inside : Within x t s → (r : OpWithPath) × In r (stands [] u) × Moved s r
      inside i =
          let found : find x t ≡ Some i.here = ap (λ y. find y t) (sym i.id) ∙ stand_found t d (stand i.here (i.step_in ∷ i.path)) i.there in
          let top = found_stands x u i.here (sym same ∙ found) in
          let there : In (stand i.here top.0.path) (stands [] u) = subst (λ q. In (stand q top.0.path) (stands [] u)) top.3 top.1 in
          let old : op_with_path x t ≡ Some (stand i.here (i.step_in ∷ i.path)) = ap (λ y. op_with_path y t) (sym i.id) ∙ stand_of_member t d (stand i.here (i.step_in ∷ i.path)) i.there in
          let new : op_with_path x u ≡ Some (stand i.here top.0.path) = ap (λ y. op_with_path y u) (sym i.id) ∙ stand_of_member u e (stand i.here top.0.path) there in
          let both_tables : Some (table_in is_table (i.step_in ∷ i.path)) ≡ Some (table_in is_table top.0.path) =
          sym (ap (option_map (λ (z : OpWithPath). table_in is_table z.path)) old) ∙ stands_table is_table x [] t ∙ tables ∙ sym (stands_table is_table x [] u) ∙ ap (option_map (λ (z : OpWithPath). table_in is_table z.path)) new in
          let one : table_in is_table (i.step_in ∷ i.path) ≡ table_in is_table top.0.path = cc in
          elim (again (i.step_in ∷ i.path) top.0.path one i.here s i.inner) [
            | inl k ↦ absurd (apart (ap (λ (z : OpWithPath). op_with_path_id z) k ∙ i.id))
            | inr r ↦ (
              r.0,
              within i.here top.0.path r.0 r.1 [] u there,
              record {
                id = ap (λ o. (head o).id) r.2;
                alike = record { heads = ap (λ o. head o) (sym r.2); parent = sym r.3; home = sym r.4; table = sym r.5 ∙ ap (λ o. table_at (head o) r.0.path) (sym r.2) };
                node = ap (λ o. node_of o) (sym r.2);
              },
            )
          ]

module _ (x : ℕ) (m n : Operation) (d : HasDistinctIds m) (e : HasDistinctIds n) (is : without x n ≡ without x m) (same : find x n ≡ find x m) (tables : table_of is_table x n ≡ table_of is_table x m) where
  to : (y : ℕ) → (y ≡ x → ⊥) → (s : OpWithPath) → In s (stands [] m) → op_with_path_id s ≡ y → (r : OpWithPath) × In r (stands [] n) × Moved s r
  to y apart s h i = moved x m n d e (sym is) (sym same) (sym tables) s h (λ k. apart (sym i ∙ k))

  back : (y : ℕ) → (y ≡ x → ⊥) → (s : OpWithPath) → In s (stands [] n) → op_with_path_id s ≡ y → (r : OpWithPath) × In r (stands [] m) × (op_with_path_id r ≡ y)
  back y apart s h i = let r = moved x n m e d is same tables s h (λ k. apart (sym i ∙ k)) in (r.0, r.1, r.2.id ∙ i)

  found_moved : (v : Value) → type_of_value v m ≡ type_of_value v n
  found_moved v = elim (bool_cases (eqb (owner_of v).0 x)) [
    | inr k ↦ same_value_type v m n (nodes (owner_of v).0 (λ i. true≢false (sym (eq-eqb (owner_of v).0 x i) ∙ k)))
    | inl k ↦ same_value_type v m n (owned (eqb-true (owner_of v).0 x k))
  ]
    where
      nodes : (z : ℕ) → (z ≡ x → ⊥) → Both (λ s r. node_of s.here ≡ node_of r.here) z m n
      nodes z apart = both (λ s r. node_of s.here ≡ node_of r.here) z m n d e (λ s h i. let r = to z apart s h i in (r.0, r.1, r.2.id ∙ i, r.2.node)) (back z apart)

      one : (a b : Option OpWithPath) → option_map (λ (z : OpWithPath). z.here) a ≡ option_map (λ (z : OpWithPath). z.here) b → op_with_path x m ≡ a → op_with_path x n ≡ b → Both (λ s r. node_of s.here ≡ node_of r.here) x m n
      one None None k i j = neither i j
      one None (Some r) k i j = absurd cc
      one (Some s) None k i j = absurd cc
      one (Some s) (Some r) k i j = let both_here : s.here ≡ r.here = cc in each s r (member x (stands [] m) s i).0 i j (ap (λ o. node_of o) both_here)

      owned : (owner_of v).0 ≡ x → Both (λ s r. node_of s.here ≡ node_of r.here) (owner_of v).0 m n
      owned k = subst (λ z. Both (λ s r. node_of s.here ≡ node_of r.here) z m n) (sym k) (one (op_with_path x m) (op_with_path x n) (stands_find x [] m ∙ sym same ∙ sym (stands_find x [] n)) refl refl)

  moved_far : (y : ℕ) → (y ≡ x → ⊥) → role_of n y ≡ role_of m y
  moved_far y apart = sym (same_roles y m n (both AlikeRoles y m n d e (λ s h i. let r = to y apart s h i in (r.0, r.1, r.2.id ∙ i, r.2.alike)) (back y apart)) (λ s h i v k. found_moved v))

-- ---- events
keeps_at : (x : ℕ) (f : Head → Head) → ((h : Head) → Keeps (f h) h) → (h : Head) → Keeps (at x f h) h
keeps_at x f k h = elim (eqb h.id x) as (λ b. Keeps (cond b (f h) h) h) [ true ↦ k h | false ↦ record { id = refl; name = refl; results = refl } ]

keeps_part : (part : Part) (f : List (List ℕ × AttrTerm) → List (List ℕ × AttrTerm)) (h : Head) → Keeps (change_part part f h) h
keeps_part Props f h = record { id = refl; name = refl; results = refl }
keeps_part Attrs f h = record { id = refl; name = refl; results = refl }

-- an operation that calls nothing, one of whose operands changed
unmapped : {A B : Type 0} (f : A → B) (o : Option A) → o ≡ None → option_map f o ≡ None
unmapped f o e = ap (option_map f) e

table_operand : (k : ℕ) (v : Value) (h : Head) (path : Path) → table_at (put_operand k v h) path ≡ table_at h path
table_operand k v h [] = refl
table_operand k v h (a ∷ q) = refl

module _ (x k : ℕ) (new : Value) (m n : Operation) (is : n ≡ each_head (at x (put_operand k new)) m) (none : (o : Operation) → find x n ≡ Some o → callee_of (head o) ≡ None) where
  abbrev set : Head → Head
  set = at x (put_operand k new)

  kept : (h : Head) → Keeps (set h) h
  kept = keeps_at x (put_operand k new) (λ h. record { id = refl; name = refl; results = refl })

  pub own_role : role_of n x ≡ role_of m x
  own_role = go (op_with_path x m) refl
    where
      there : op_with_path x n ≡ option_map (edit_stand set) (op_with_path x m)
      there = ap (op_with_path x) is ∙ stand_of_each set kept x m

      go : (o : Option OpWithPath) → op_with_path x m ≡ o → role_of n x ≡ role_of m x
      go None e = ap (option_map (role n)) (there ∙ ap (option_map (edit_stand set)) e) ∙ sym (ap (option_map (role m)) e)
      go (Some s) e =
          let id = (member x (stands [] m) s e).1 in
          let h : Head = head s.here in
          let heads : head (each_head set s.here) ≡ put_operand k new h = each_is set kept s.here ∙ ap (λ b. cond b (put_operand k new h) h) (eq-eqb h.id x id) in
          let around = parent_each set kept s.path in
          let home = home_each set kept s.path in
          let table : table_at (head (each_head set s.here)) (map (edit_step set) s.path) ≡ table_at h s.path = ap (λ (z : Head). table_at z (map (edit_step set) s.path)) heads ∙ table_each set kept (put_operand k new h) s.path ∙ table_operand k new h s.path in
          let found : find x n ≡ Some (each_head set s.here) = sym (stands_find x [] n) ∙ ap (option_map (λ (z : OpWithPath). z.here)) (there ∙ ap (option_map (edit_stand set)) e) in
          let bare : callee_of h ≡ None = sym (ap callee_of heads) ∙ none (each_head set s.here) found in
          let before = map (λ v. type_of_value v m) h.operands in
          let after = map (λ v. type_of_value v n) (put_operand k new h).operands in
          let calls : call_of (put_operand k new h) after ≡ call_of h before = unmapped _ (callee_of h) bare ∙ sym (unmapped _ (callee_of h) bare) in
          let one : role n (edit_stand set s) ≡ role_from (parent_in s.path) (home_of s.path) (table_at h s.path) (put_operand k new h) after = (λ i. role_from (around i) (home i) (table i) (heads i) (map (λ v. type_of_value v n) (heads i).operands)) in
          let two : role_from (parent_in s.path) (home_of s.path) (table_at h s.path) (put_operand k new h) after ≡ role m s = (λ i. record { parent = parent_in s.path; home = home_of s.path; table = table_at h s.path; is_table = is_table h.name; symbol = symbol_of h; name = name_of h; is_private = is_private h; references = references_of h; call = calls i; function = signature_of h }) in
          ap (option_map (role n)) (there ∙ ap (option_map (edit_stand set)) e) ∙ ap Some (one ∙ two) ∙ sym (ap (option_map (role m)) e)

at_others : (x : ℕ) (f : Head → Head) (y : ℕ) → eqb x y ≡ false → (h : Head) → h.id ≡ y → at x f h ≡ h
at_others x f y e h i = elim (bool_cases (eqb h.id x)) [ inl k ↦ absurd (unlike x y e (sym i ∙ eqb-true h.id x k)) | inr k ↦ ap (λ b. cond b (f h) h) k ]

pub far_roles : (c : ContextModel) (e : Event) (m n : Module) → Step c e m n → (y : ℕ) → eqb (op_of e) y ≡ false → role_of n.tree y ≡ role_of m.tree y
far_roles c (Put x place fresh) m n s y far = sym (taken_far x n.tree m.tree s.after.distinct s.before.distinct s.changes.left s.changes.empty s.changes.unused y (unlike x y far))
far_roles c (Take x place fresh) m n s y far = taken_far x m.tree n.tree s.before.distinct s.after.distinct s.changes.left s.changes.empty s.changes.unused y (unlike x y far)
far_roles c (SetOperand x k old new) m n s y far = each_far (at x (put_operand k new)) (keeps_at x (put_operand k new) (λ h. record { id = refl; name = refl; results = refl })) m.tree n.tree s.changes.after y (at_others x (put_operand k new) y far)
far_roles c (SetEntry x part key old new) m n s y far = each_far (at x _) (keeps_at x _ (keeps_part part _)) m.tree n.tree s.changes.after y (at_others x _ y far)
far_roles c (Shift x old new) m n s y far = moved_far x m.tree n.tree s.before.distinct s.after.distinct s.changes.rest s.changes.same s.changes.table y (unlike x y far)
