-- The ancestors of an operation in a tree are its ancestors by the parents of a table of roles.
use Rattle.std.proofs.Common.{◌≡◌, refl, ap, sym, ◌∙◌, subst, ℕ, true, List, [], ◌∷◌, map, Option, Some, None, inl, inr}
use Rattle.std.specs.Prelude.{option_map, is_some, IfSome}
use Rattle.ir_event.specs.types.Things.{ContextModel}
use Rattle.ir_event.specs.types.Terms.{TypeTerm, AttrTerm}
use Rattle.ir_event.specs.trees.Tree.{head}
use Rattle.ir_event.specs.trees.Ids.{HasDistinctIds}
use Rattle.ir_event.specs.trees.Meaning.{Operation}
use Rattle.ir_event.specs.tree_laws.Members.{In}
use Rattle.ir_event.specs.tree_laws.Stands.{StepOf, op_with_path_id, stands}
use Rattle.ir_event.proofs.of_tree_laws.Members.{stand, stand_of_member}
use Rattle.ir_event.proofs.of_tree_laws.Around.{around_there}
use Rattle.listeners_symbols.specs.declared.role.Role.{Role as Numbers}
use Rattle.listeners_symbols.specs.declared.roles.Roles.{Roles}
use Rattle.listeners_symbols.specs.Roles.{OpWithPath, Role, parent_in, role, role_of}
use Rattle.listeners_symbols.specs.Table.{role_numbers, role_meaning, MaySay, Keeps}
use Rattle.listeners_symbols.specs.Lines.{numbers_at}
use Rattle.listeners_symbols.specs.Listeners.{kept_at}
use Rattle.listeners_symbols.proofs.Omitted.{said}
use Rattle.ir_event.proofs.of_tree_laws.Reasoned.{some_there}
use Rattle.listeners.specs.Unreached.{self_and_ancestors}
use Rattle.listeners.specs.Marks.{parent_at, IsUnder, itself, around}

abbrev Path : Type 0
Path = List (StepOf (List ℕ) TypeTerm AttrTerm)

module _ (b : ContextModel) (t : Operation) (d : HasDistinctIds t) (m : Roles) (keeps : Keeps b t (kept_at m)) where
  linked : (s : OpWithPath) → In s (stands [] t) → (k : Numbers) → kept_at m (op_with_path_id s) ≡ Some k → k.parent ≡ parent_in s.path
  linked s h k e =
      let said_k = said b (role_of t (op_with_path_id s)) k (subst (MaySay b (role_of t (op_with_path_id s))) e (keeps.says (op_with_path_id s))) in
      let two : Some (role_meaning b k) ≡ Some (role t s) = said_k.is ∙ ap (option_map (role t)) (stand_of_member t d s h) in
      let one : role_meaning b k ≡ role t s = cc in
      ap (λ (r : Role). r.parent) one

  -- the parent of an operation with an entry has an entry
  above : (s : OpWithPath) → In s (stands [] t) → (k : Numbers) → kept_at m (op_with_path_id s) ≡ Some k → (p : ℕ) → parent_in s.path ≡ Some p → (l : Numbers) × (kept_at m p ≡ Some l)
  above s h k e p i = some_there (kept_at m p) (subst (λ o. IfSome o (λ z. is_some (kept_at m z) ≡ true)) (linked s h k e ∙ i) (keeps.parents (op_with_path_id s) k e))

  parent_is : (x : ℕ) (k : Numbers) → kept_at m x ≡ Some k → parent_at (numbers_at m x) ≡ k.parent
  parent_is x k e = ap (λ z. parent_at (option_map role_numbers z)) e

  pub to_links : (p : ℕ) (path : Path) (o : Operation) → In (stand o path) (stands [] t) → (k : Numbers) → kept_at m (head o).id ≡ Some k → In p (self_and_ancestors (Some (stand o path))) → IsUnder (numbers_at m) (head o).id p
  to_links p path o h k e (inl i) = subst (λ z. IsUnder (numbers_at m) (head o).id z) (sym i) (itself (head o).id)
  to_links p [] o h k e (inr i) = absurd i
  to_links p (a ∷ q) o h k e (inr i) =
      let up = above (stand o (a ∷ q)) h k e (head a.parent).id refl in
      around (head o).id (head a.parent).id p (parent_is (head o).id k e ∙ linked (stand o (a ∷ q)) h k e) (to_links p q a.parent (around_there t o a q h).1 up.0 up.1 i)

  pub from_links : (y p : ℕ) → IsUnder (numbers_at m) y p → (s : OpWithPath) → In s (stands [] t) → op_with_path_id s ≡ y → In p (self_and_ancestors (Some s))
  from_links y p (itself z) s h e = inl (sym e)
  from_links y p (around z q r i u) s h e = at_path s.path refl (from_links q r u)
    where
      entry : (k : Numbers) × (kept_at m z ≡ Some k)
      entry = go (kept_at m z) refl
        where
          go : (o : Option Numbers) → kept_at m z ≡ o → (k : Numbers) × (kept_at m z ≡ Some k)
          go None f = (let bad : None ≡ Some q = sym (ap (λ o. parent_at (option_map role_numbers o)) f) ∙ i in absurd cc)
          go (Some k) f = (k, f)

      its_parent : parent_in s.path ≡ Some q
      its_parent = sym (linked s h entry.0 (ap (kept_at m) e ∙ entry.1)) ∙ sym (parent_is z entry.0 entry.1) ∙ i

      at_path : (path : Path) → s.path ≡ path → ((v : OpWithPath) → In v (stands [] t) → op_with_path_id v ≡ q → In r (self_and_ancestors (Some v))) → In r (self_and_ancestors (Some s))
      at_path [] j f = (let bad : None ≡ Some q = sym (ap parent_in j) ∙ its_parent in absurd cc)
      at_path (a ∷ l) j f =
          let two : Some (head a.parent).id ≡ Some q = sym (ap parent_in j) ∙ its_parent in
          let one : (head a.parent).id ≡ q = cc in
          let there : In (stand s.here (a ∷ l)) (stands [] t) = subst (λ z. In (stand s.here z) (stands [] t)) j h in
          inr (subst (λ (z : Path). In r (map (λ (c : StepOf (List ℕ) TypeTerm AttrTerm). (head c.parent).id) z)) (sym j) (f (stand a.parent l) (around_there t s.here a l there).1 one))
