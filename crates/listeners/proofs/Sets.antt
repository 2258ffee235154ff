-- The computed set is the least set.
use Rattle.std.proofs.Common.{◌≡◌, refl, ap, sym, ◌∙◌, subst, ℕ, true, true≢false, not, [], Option, Some, None, inl, inr}
use Rattle.std.specs.Prelude.{option_map}
use Rattle.ir_event.specs.trees.Ids.{ids}
use Rattle.ir_event.specs.trees.Meaning.{Operation}
use Rattle.ir_event.specs.tree_laws.Members.{In}
use Rattle.ir_event.specs.tree_laws.Stands.{op_with_path_id, stands, op_with_path}
use Rattle.ir_event.proofs.of_tree_laws.Listed.{bool_cases, in_map, in_filter, in_filtered}
use Rattle.ir_event.proofs.of_tree_laws.Readings.{stands_ids}
use Rattle.ir_event.proofs.of_tree_laws.Members.{member}
use Rattle.std.specs.Str.{bytes_eq}
use Rattle.listeners_symbols.specs.Roles.{OpWithPath, Role, role, role_of}
use Rattle.listeners_symbols.specs.Symbols.{definitions, roles_by_id}
use Rattle.listeners.specs.Reached.{IsReached, among}
use Rattle.listeners.specs.Unreached.{says_definition, reached_from, under, reaches, is_definition, private_definitions, Reached, reached_in, unreached_of}
use Rattle.listeners.proofs.Least.{in_among, among_in, reached_sound, reached_complete}
use Rattle.listeners.proofs.Taken.{reached_more}

module _ (t : Operation) where
  -- an operation at a position of the tree has an id of the tree
  pub stand_there : (y : ℕ) (s : OpWithPath) → op_with_path y t ≡ Some s → In y (ids t)
  stand_there y s e = let m = member y (stands [] t) s e in subst (λ z. In z (ids t)) m.1 (subst (In (op_with_path_id s)) (stands_ids [] t) (in_map (λ (u : OpWithPath). op_with_path_id u) s (stands [] t) m.0))

  -- an operation with a role has a position in the tree
  pub role_stands : (y : ℕ) (r : Role) → role_of t y ≡ Some r → (s : OpWithPath) × (op_with_path y t ≡ Some s)
  role_stands y r e = go (op_with_path y t) refl
    where
      go : (o : Option OpWithPath) → op_with_path y t ≡ o → (s : OpWithPath) × (op_with_path y t ≡ Some s)
      go None i = (let bad : None ≡ Some r = sym (ap (option_map (role t)) i) ∙ e in absurd cc)
      go (Some s) i = (s, i)

  pub role_there : (y : ℕ) (r : Role) → role_of t y ≡ Some r → In y (ids t)
  role_there y r e = let s = role_stands y r e in stand_there y s.0 s.1

  -- a definition has a role, and so has an operation that reaches something
  pub definition_role : (x : ℕ) → is_definition t x ≡ true → (r : Role) × (role_of t x ≡ Some r)
  definition_role x e = go (role_of t x) refl
    where
      go : (o : Option Role) → role_of t x ≡ o → (r : Role) × (role_of t x ≡ Some r)
      go None i = absurd (true≢false (sym e ∙ ap (λ (o : Option Role). says_definition o) i))
      go (Some r) i = (r, i)

  pub reacher_role : (y x : ℕ) → In x (reaches t y) → (r : Role) × (role_of t y ≡ Some r)
  reacher_role y x h = go (role_of t y) refl
    where
      go : (o : Option Role) → role_of t y ≡ o → (r : Role) × (role_of t y ≡ Some r)
      go None i = absurd (subst (λ (o : Option Role). In x (reached_from bytes_eq (role_of t) (definitions (roles_by_id t)) o)) i h)
      go (Some r) i = (r, i)

  definition_in : (x : ℕ) → is_definition t x ≡ true → In x (private_definitions t)
  definition_in x e = let r = definition_role x e in in_filter (is_definition t) x (ids t) e (role_there x r.0 r.1)

  abbrev Least : ℕ → Type 0
  Least = IsReached (λ x. In x (private_definitions t)) (λ y p. In p (under t y)) (λ y x. In x (reaches t y))

  -- the computed set is the least set
  pub in_reached : (x : ℕ) → In x (reached_in t) → Reached t x
  in_reached x h =
      reached_more (λ z. In z (private_definitions t)) (λ z. is_definition t z ≡ true) (λ y p. In p (under t y)) (λ y p. In p (under t y)) (λ y z. In z (reaches t y)) (λ y z. In z (reaches t y))
      (λ z k. (in_filtered (is_definition t) z (ids t) k).1) (λ y z r. r) (λ y z r p q v. (definition_in p q, v)) x
      (reached_sound (private_definitions t) (ids t) (under t) (reaches t) x h)

  pub reached_is_in : (x : ℕ) → Reached t x → In x (reached_in t)
  reached_is_in x h =
      reached_complete (private_definitions t) (ids t) (under t) (reaches t) (λ y z k. let r = reacher_role y z k in role_there y r.0 r.1) x
      (reached_more (λ z. is_definition t z ≡ true) (λ z. In z (private_definitions t)) (λ y p. In p (under t y)) (λ y p. In p (under t y)) (λ y z. In z (reaches t y)) (λ y z. In z (reaches t y))
      definition_in (λ y z r. r) (λ y z r p q v. ((in_filtered (is_definition t) p (ids t) q).1, v)) x h)

  pub unreached_out : (x : ℕ) → In x (unreached_of t) → (is_definition t x ≡ true) × (Reached t x → ⊥)
  unreached_out x h =
      let m = in_filtered (λ z. not (among z (reached_in t))) x (private_definitions t) h in (
        (in_filtered (is_definition t) x (ids t) m.0).1,
        λ r. true≢false (sym m.1 ∙ ap not (in_among x (reached_in t) (reached_is_in x r))),
      )

  pub unreached_in : (x : ℕ) → is_definition t x ≡ true → (In x (unreached_of t) → ⊥) → Reached t x
  unreached_in x e h = elim (bool_cases (among x (reached_in t))) [
    | inl k ↦ in_reached x (among_in x (reached_in t) k)
    | inr k ↦ absurd (h (in_filter (λ z. not (among z (reached_in t))) x (private_definitions t) (ap not k) (definition_in x e)))
  ]
