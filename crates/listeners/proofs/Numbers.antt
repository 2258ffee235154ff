-- What is reached by a table of roles in numbers is what is reached by the tree's roles.
use Rattle.std.proofs.Common.{◌≡◌, refl, ap, sym, ◌∙◌, subst, ℕ, ◌++◌, Bool, true, false, cond, ◌&&◌, eqb, List, [], ◌∷◌, map, Option, Some, None, inl, inr}
use Rattle.std.specs.Prelude.{option_map, option_to_list, is_some, IfSome}
use Rattle.std.specs.List.{All}
use Rattle.std.specs.Str.{bytes_eq}
use Rattle.std.specs.Ordering.{nat_cmp}
use Rattle.listeners_support.specs.Map as idmap
use Rattle.std.proofs.lemmas.List.Elements.{All-head, All-tail}
use Rattle.ir_event.specs.types.Things.{ContextModel, IsName}
use Rattle.ir_event.specs.types.Sound.{IsSound}
use Rattle.ir_event.specs.types.Terms.{name_term, attr_term}
use Rattle.ir_event.specs.trees.Ids.{HasDistinctIds}
use Rattle.ir_event.specs.trees.Meaning.{Operation}
use Rattle.ir_event.specs.tree_laws.Members.{In}
use Rattle.ir_event.specs.tree_laws.Stands.{stands, op_with_path}
use Rattle.ir_event.proofs.of_tree_laws.Members.{member}
use Rattle.listeners_symbols.specs.declared.role.Role.{Role as Numbers}
use Rattle.listeners_symbols.specs.declared.roles.Roles.{Roles}
use Rattle.listeners_symbols.specs.declared.role.Reference.{Reference}
use Rattle.listeners_symbols.specs.Roles.{OpWithPath, Role, role_of}
use Rattle.listeners_symbols.specs.Symbols.{DefinitionOf, definitions, roles_by_id, look_in}
use Rattle.listeners_symbols.specs.Table.{reference_of, role_numbers, map_reference, role_meaning, RoleIsOf, ReferenceIsOf, IsPlain, MaySay, Keeps}
use Rattle.listeners_symbols.specs.Lines.{numbered, numbers_at}
use Rattle.listeners_symbols.specs.Listeners.{kept_at}
use Rattle.listeners_symbols.proofs.Omitted.{entry_known}
use Rattle.listeners_symbols.proofs.Reported.{Each, DefinitionIs, defs_in, definitions_meant, definitions_known, look_meant, entries_known, definitions_all}
use Rattle.listeners.specs.Unreached.{private_name, says_definition, prefixes, targets, reached_from, self_and_ancestors, under, reaches, is_definition, Reached}
use Rattle.listeners.specs.Marks.{IsUnder, IsDefinition, Reaches, ReachedBy}
use Rattle.listeners.proofs.Sets.{reacher_role, role_stands}
use Rattle.listeners.proofs.Under.{to_links, from_links}
use Rattle.listeners.proofs.Taken.{reached_more}
use Rattle.ir_event.proofs.of_tree_laws.Contents.{some_map}

-- a plain role is no private definition
pub not_private : (r : Role) → IsPlain r → is_some (private_name r) ≡ false
not_private r p = ap (λ s. is_some (cond (is_some r.home && r.is_private) s None)) p.symbol ∙ go (is_some r.home && r.is_private)
  where
    nothing : Option (List ℕ)
    nothing = None

    go : (z : Bool) → is_some (cond z nothing None) ≡ false
    go true = refl
    go false = refl

module _ (b : ContextModel) where
  -- a definition in numbers is one in contents, with the name of its number
  pub private_meant : (r : Numbers) → private_name (role_meaning b r) ≡ option_map (name_term b) (private_name (role_numbers r))
  private_meant r = go (is_some r.home) r.is_private
    where
      go : (h p : Bool) → cond (h && p) (option_map (name_term b) r.symbol) None ≡ option_map (name_term b) (cond (h && p) r.symbol None)
      go true true = refl
      go true false = refl
      go false p = refl

  module _ (sound : IsSound b) (t : Operation) (m : Roles) (keeps : Keeps b t (kept_at m)) where
    pub definition_meant : (x : ℕ) → is_definition t x ≡ says_definition (numbers_at m x)
    definition_meant x = meant_by (keeps.says x)
      where
        go : (k : Option Numbers) → says_definition (option_map (role_meaning b) k) ≡ says_definition (option_map role_numbers k)
        go None = refl
        go (Some k) = ap is_some (private_meant k) ∙ some_map (name_term b) (private_name (role_numbers k))

        meant_by : MaySay b (role_of t x) (kept_at m x) → is_definition t x ≡ says_definition (numbers_at m x)
        meant_by (inl s) = ap says_definition (sym s.is) ∙ go (kept_at m x)
        meant_by (inr e) = ap says_definition e.is ∙ not_private e.role e.simple ∙ sym (ap (λ o. says_definition (option_map role_numbers o)) e.none)

    module _ (ds : List (DefinitionOf ℕ)) (known : Each (DefinitionIs b) ds) where
      prefixes_meant : (found : Option ℕ) (ns : List ℕ) → All (IsName b) ns → prefixes bytes_eq (role_of t) (defs_in b ds) found (map (name_term b) ns) ≡ prefixes eqb (numbers_at m) ds found ns
      prefixes_meant found [] h = refl
      prefixes_meant found (n ∷ ns) h =
          let next = look_meant b sound t m keeps ds known found n (All-head (IsName b) n ns h) in
          (λ i. option_to_list (next i) ++ prefixes bytes_eq (role_of t) (defs_in b ds) (next i) (map (name_term b) ns))
          ∙ ap (λ l. option_to_list (look_in eqb (numbers_at m) ds found n) ++ l) (prefixes_meant (look_in eqb (numbers_at m) ds found n) ns (All-tail (IsName b) n ns h))

      targets_meant : (table : Option ℕ) (ps : List Reference) → All (ReferenceIsOf b) ps → targets bytes_eq (role_of t) (defs_in b ds) table (map (map_reference (name_term b) (attr_term b)) (map reference_of ps)) ≡ targets eqb (numbers_at m) ds table (map reference_of ps)
      targets_meant table [] h = refl
      targets_meant table (p ∷ ps) h = λ i. prefixes_meant table p.parts.items (All-head (ReferenceIsOf b) p ps h).parts i ++ targets_meant table ps (All-tail (ReferenceIsOf b) p ps h) i

      reached_meant : (y : ℕ) → reached_from bytes_eq (role_of t) (defs_in b ds) (role_of t y) ≡ reached_from eqb (numbers_at m) ds (numbers_at m y)
      reached_meant y = meant_by (keeps.says y)
        where
          go : (k : Option Numbers) → IfSome k (RoleIsOf b) → reached_from bytes_eq (role_of t) (defs_in b ds) (option_map (role_meaning b) k) ≡ reached_from eqb (numbers_at m) ds (option_map role_numbers k)
          go None h = refl
          go (Some k) h = targets_meant k.table k.references.items h.references

          meant_by : MaySay b (role_of t y) (kept_at m y) → reached_from bytes_eq (role_of t) (defs_in b ds) (role_of t y) ≡ reached_from eqb (numbers_at m) ds (numbers_at m y)
          meant_by (inl s) = ap (reached_from bytes_eq (role_of t) (defs_in b ds)) (sym s.is) ∙ go (kept_at m y) s.known
          meant_by (inr e) =
              ap (reached_from bytes_eq (role_of t) (defs_in b ds)) e.is
              ∙ ap (targets bytes_eq (role_of t) (defs_in b ds) e.role.table) e.simple.references
              ∙ sym (ap (λ o. reached_from eqb (numbers_at m) ds (option_map role_numbers o)) e.none)

    module _ (d : HasDistinctIds t) (ordered : idmap.IsOrdered m.all) where
      abbrev in_numbers : List (DefinitionOf ℕ)
      in_numbers = definitions (numbered m.all.entries)

      all_known : Each (DefinitionIs b) in_numbers
      all_known = definitions_known b m.all.entries (entries_known b m.all.entries ordered (λ q r i. subst (λ (o : Option Numbers). IfSome o (RoleIsOf b)) i (entry_known b (role_of t q) (kept_at m q) (keeps.says q))))

      all_meant : definitions (roles_by_id t) ≡ defs_in b in_numbers
      all_meant = sym (definitions_all t b m ordered keeps) ∙ definitions_meant b m.all.entries

      reaches_meant : (y : ℕ) → reaches t y ≡ reached_from eqb (numbers_at m) in_numbers (numbers_at m y)
      reaches_meant y = ap (λ l. reached_from bytes_eq (role_of t) l (role_of t y)) all_meant ∙ reached_meant in_numbers all_known y

      -- an operation that reaches something has an entry
      reacher_entry : (y z : ℕ) → Reaches (numbers_at m) in_numbers y z → (k : Numbers) × (kept_at m y ≡ Some k)
      reacher_entry y z r = go (kept_at m y) refl
        where
          go : (o : Option Numbers) → kept_at m y ≡ o → (k : Numbers) × (kept_at m y ≡ Some k)
          go None e = absurd (subst (λ (o : Option Numbers). In z (reached_from eqb (numbers_at m) in_numbers (option_map role_numbers o))) e r)
          go (Some k) e = (k, e)

      under_links : (y z p : ℕ) → Reaches (numbers_at m) in_numbers y z → In p (under t y) → IsUnder (numbers_at m) y p
      under_links y z p r h = go (op_with_path y t) refl
        where
          go : (o : Option OpWithPath) → op_with_path y t ≡ o → IsUnder (numbers_at m) y p
          go None e = absurd (subst (λ (o : Option OpWithPath). In p (self_and_ancestors o)) e h)
          go (Some s) e =
              let k = member y (stands [] t) s e in
              let entry = reacher_entry y z r in
              subst (λ z. IsUnder (numbers_at m) z p) k.1 (to_links b t d m keeps p s.path s.here k.0 entry.0 (ap (kept_at m) k.1 ∙ entry.1) (subst (λ (o : Option OpWithPath). In p (self_and_ancestors o)) e h))

      links_under : (y x p : ℕ) → In x (reaches t y) → IsUnder (numbers_at m) y p → In p (under t y)
      links_under y x p r u =
          let q = reacher_role t y x r in
          let s = role_stands t y q.0 q.1 in
          let k = member y (stands [] t) s.0 s.1 in
          subst (λ (o : Option OpWithPath). In p (self_and_ancestors o)) (sym s.1) (from_links b t d m keeps y p u s.0 k.0 k.1)

      pub to_tree : (x : ℕ) → ReachedBy (numbers_at m) in_numbers x → Reached t x
      to_tree x h =
          reached_more (IsDefinition (numbers_at m)) (λ z. is_definition t z ≡ true) (IsUnder (numbers_at m)) (λ y p. In p (under t y)) (Reaches (numbers_at m) in_numbers) (λ y z. In z (reaches t y))
          (λ z e. definition_meant z ∙ e)
          (λ y z r. subst (In z) (sym (reaches_meant y)) r)
          (λ y z r p q v. (sym (definition_meant p) ∙ q, under_links y z p r v))
          x h

      pub from_tree : (x : ℕ) → Reached t x → ReachedBy (numbers_at m) in_numbers x
      from_tree x h =
          reached_more (λ z. is_definition t z ≡ true) (IsDefinition (numbers_at m)) (λ y p. In p (under t y)) (IsUnder (numbers_at m)) (λ y z. In z (reaches t y)) (Reaches (numbers_at m) in_numbers)
          (λ z e. sym (definition_meant z) ∙ e)
          (λ y z r. subst (In z) (reaches_meant y) r)
          (λ y z r p q v. (definition_meant p ∙ q, links_under y z p r v))
          x h
