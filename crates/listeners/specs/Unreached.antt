-- The analysis: the private symbols that nothing reaches (Symbols and Symbol Tables, "Symbol Visibility").
use Rattle.std.specs.Prelude.{◌≡◌, ℕ, List, [], ◌∷◌, ◌++◌, map, filter, Bool, true, false, not, ◌&&◌, if◌then◌else◌}
use Rattle.std.specs.Prelude.{Option, Some, None, is_some, option_to_list}
use Rattle.std.specs.Str.{bytes_eq}
use Rattle.ir_event.specs.trees.Tree.{head}
use Rattle.ir_event.specs.trees.Ids.{ids}
use Rattle.ir_event.specs.trees.Meaning.{Operation}
use Rattle.ir_event.specs.tree_laws.Members.{In}
use Rattle.ir_event.specs.tree_laws.Stands.{op_with_path_id, op_with_path}
use Rattle.ir_event.specs.Rows.{RowTerm, Op, Name}
use Rattle.listeners_symbols.specs.Roles.{ReferenceOf, RoleOf, OpWithPath, role_of}
use Rattle.listeners_symbols.specs.Symbols.{RolesOf, roles_by_id, RoleAt, DefinitionOf, definitions, look_in}
use Rattle.listeners.specs.Reached.{IsReached, among, reached_ones}

-- ---- private definitions

-- the name of a private definition: a symbol of a symbol table with private visibility
abbrev pub private_name : {N T A : Type 0} → RoleOf N T A → Option N
private_name r = if is_some r.home && r.is_private then r.symbol else None

-- whether an operation is a private definition, by its role
abbrev pub says_definition : {N T A : Type 0} → Option (RoleOf N T A) → Bool
says_definition None = false
says_definition (Some r) = is_some (private_name r)

-- ---- what an operation reaches

-- `same_name` decides whether two names are equal
module _ {N : Type 0} (same_name : N → N → Bool) where
  -- the operations to which the prefixes of a reference resolve: each part is looked up in the operation of the parts
  -- before it
  abbrev pub prefixes : {T A : Type 0} → RoleAt N T A → List (DefinitionOf N) → Option ℕ → List N → List ℕ
  prefixes roles ds found [] = []
  prefixes roles ds found (name ∷ names) =
      option_to_list (look_in same_name roles ds found name)
      ++ prefixes roles ds (look_in same_name roles ds found name) names

  -- the same for several references, in a symbol table
  abbrev pub targets : {T A : Type 0} → RoleAt N T A → List (DefinitionOf N) → Option ℕ → List (ReferenceOf N A)
      → List ℕ
  targets roles ds table [] = []
  targets roles ds table (p ∷ ps) = prefixes roles ds table p.1 ++ targets roles ds table ps

  -- the operations that an operation reaches, by its role: those to which the prefixes of its references resolve
  abbrev pub reached_from : {T A : Type 0} → RoleAt N T A → List (DefinitionOf N) → Option (RoleOf N T A) → List ℕ
  reached_from roles ds None = []
  reached_from roles ds (Some r) = targets roles ds r.table r.references

-- ---- of a tree

-- the operations that contain an operation: itself and its ancestors
abbrev pub self_and_ancestors : Option OpWithPath → List ℕ
self_and_ancestors None = []
self_and_ancestors (Some s) = op_with_path_id s ∷ map (λ a. (head a.parent).id) s.path

abbrev pub under : Operation → ℕ → List ℕ
under t y = self_and_ancestors (op_with_path y t)

-- the operations that y reaches
abbrev pub reaches : Operation → ℕ → List ℕ
reaches t y = reached_from bytes_eq (role_of t) (definitions (roles_by_id t)) (role_of t y)

-- whether x is a private definition
abbrev pub is_definition : Operation → ℕ → Bool
is_definition t x = says_definition (role_of t x)

-- the private definitions, in pre-order
abbrev pub private_definitions : Operation → List ℕ
private_definitions t = filter (is_definition t) (ids t)

-- the reached private definitions: the least set that has x if an operation reaches x and all private definitions
-- that contain the operation are in the set
abbrev pub Reached : Operation → ℕ → Type 0
Reached t = IsReached (λ x. is_definition t x ≡ true) (λ y p. In p (under t y)) (λ y x. In x (reaches t y))

-- the same set, computed
abbrev pub reached_in : Operation → List ℕ
reached_in t = reached_ones (private_definitions t) (ids t) (under t) (reaches t)

-- the private definitions that aren't reached, in pre-order
abbrev pub unreached_of : Operation → List ℕ
unreached_of t = let set = reached_in t in filter (λ x. not (among x set)) (private_definitions t)

-- ---- rows

-- a row: `#x @n`
abbrev pub line_of : {N : Type 0} → Bool → ℕ → Option N → List (ℕ × N)
line_of true x name = []
line_of false x None = []
line_of false x (Some name) = (x, name) ∷ []

-- the rows of the private definitions that fail the test, ordered by id
abbrev pub lines_with : {N T A : Type 0} → (ℕ → Bool) → RolesOf N T A → List (ℕ × N)
lines_with is_reached [] = []
lines_with is_reached (e ∷ es) = line_of (is_reached e.0) e.0 (private_name e.1) ++ lines_with is_reached es

-- the rows of a tree
abbrev pub unreached_lines : Operation → List (ℕ × List ℕ)
unreached_lines t = let set = reached_in t in lines_with (λ x. among x set) (roles_by_id t)

-- the cells of a row
abbrev pub line_cells : {N C : Type 0} → (ℕ → C) → (N → C) → ℕ × N → List C
line_cells op name l = op l.0 ∷ name l.1 ∷ []

abbrev pub unreached_rows : Operation → List RowTerm
unreached_rows t = map (line_cells Op Name) (unreached_lines t)
