-- The roles of a tree's operations in symbol resolution: their symbol tables, the symbols that they define, reference
-- and call (Symbols and Symbol Tables).
use Rattle.std.specs.Prelude.{ℕ, List, [], ◌∷◌, ◌++◌, map, codes, Bool, false, ◌||◌, if◌then◌else◌, Option, Some, None}
use Rattle.std.specs.Prelude.{option_map, option_and_then}
use Rattle.std.specs.List.{list_any}
use Rattle.std.specs.Str.{bytes_eq}
use Rattle.std.specs.Cmp.Lexicographic.{pointwise}
use Rattle.ir_event.specs.types.Terms.{TypeTerm, AttrTerm, OpaqueOf, IntegerOf, String, TypeOf, Flag, Array, Dictionary, Symbol}
use Rattle.ir_event.specs.types.Terms.{DenseArray, Overflow, AttrTerms, no_attrs, next_attr, EntryTerms, no_entries}
use Rattle.ir_event.specs.types.Terms.{next_entry}
use Rattle.ir_event.specs.types.Words.{is_table}
use Rattle.ir_event.specs.trees.Tree.{HeadOf, head}
use Rattle.ir_event.specs.trees.Ids.{first_of}
use Rattle.ir_event.specs.trees.Meaning.{Operation}
use Rattle.ir_event.specs.tree_laws.Values.{type_of_value}
use Rattle.ir_event.specs.tree_laws.Stands.{StepOf, OpWithPathOf, op_with_path, table_in}
use Rattle.op_registry.specs.Registry.{next_to}
use Rattle.op_registry.specs.Properties.{string_of, type_of}
use Rattle.ir_event.specs.types.SameTypes.{function_of}

-- a symbol reference: its attribute, and its parts
abbrev pub ReferenceOf : Type 0 → Type 0 → Type 0
ReferenceOf N A = A × List N

-- a call: the parts of the called symbol, the types of its operands, where these have one, and the types of its
-- results
pub record CallOf (N T : Type 0) : Type 0 where
  pub callee : List N
  pub inputs : List (Option T)
  pub outputs : List T

-- the role of an operation in symbol resolution
pub record RoleOf (N T A : Type 0) : Type 0 where
  -- the parent operation, if there is one
  pub parent : Option ℕ
  -- the parent, if it is a symbol table
  pub home : Option ℕ
  -- the symbol table in which the operation's references are resolved
  pub table : Option ℕ
  -- whether it is a symbol table
  pub is_table : Bool
  -- the name of the symbol that the operation defines
  pub symbol : Option N
  -- the string with the key `sym_name`, whether the operation is a symbol or not
  pub name : Option N
  -- whether the visibility is `private`
  pub is_private : Bool
  -- the symbol references in the operation's dictionaries, each once
  pub references : List (ReferenceOf N A)
  -- the call, if the operation calls a symbol
  pub call : Option (CallOf N T)
  -- the inputs and outputs, if the operation is a function
  pub function : Option (List T × List T)

abbrev pub Role : Type 0
Role = RoleOf (List ℕ) TypeTerm AttrTerm

abbrev pub Head : Type 0
Head = HeadOf (List ℕ) TypeTerm AttrTerm

abbrev pub OpWithPath : Type 0
OpWithPath = OpWithPathOf (List ℕ) TypeTerm AttrTerm

-- the symbols are functions and modules with a string as `sym_name`
abbrev pub is_function : List ℕ → Bool
is_function name = bytes_eq name (codes "func.func")

abbrev pub is_call : List ℕ → Bool
is_call name = bytes_eq name (codes "func.call")

abbrev pub symbol_of : Head → Option (List ℕ)
symbol_of h =
    if is_table h.name || is_function h.name then option_and_then string_of (next_to (codes "sym_name") h.properties)
    else None

-- the string with the key `sym_name` of a dictionary
abbrev pub name_in : List (List ℕ × AttrTerm) → Option (List ℕ)
name_in entries = option_and_then string_of (next_to (codes "sym_name") entries)

-- the string with the key `sym_name` of an operation, in its properties or else in its attributes
abbrev pub name_of : Head → Option (List ℕ)
name_of h = first_of (name_in h.properties) (name_in h.attributes)

-- whether a visibility is `private`
abbrev pub says_private : Option (List ℕ) → Bool
says_private None = false
says_private (Some visibility) = bytes_eq visibility (codes "private")

-- whether an operation's `sym_visibility` is private (Symbols and Symbol Tables, "Symbol Visibility")
abbrev pub is_private : Head → Bool
is_private h = says_private (option_and_then string_of (next_to (codes "sym_visibility") h.properties))

-- the inputs and outputs of a function, by its `function_type`
abbrev pub signature_of : Head → Option (List TypeTerm × List TypeTerm)
signature_of h =
    if is_function h.name
    then option_and_then function_of (option_and_then type_of (next_to (codes "function_type") h.properties)) else None

-- the parts of a symbol reference
abbrev pub parts_of : AttrTerm → Option (List (List ℕ))
parts_of (Symbol parts) = Some parts
parts_of _ = None

-- the symbol that an operation calls, by its `callee`
abbrev pub callee_of : Head → Option (List (List ℕ))
callee_of h = if is_call h.name then option_and_then parts_of (next_to (codes "callee") h.properties) else None

-- the call of an operation whose operands have these types
abbrev pub call_of : Head → List (Option TypeTerm) → Option (CallOf (List ℕ) TypeTerm)
call_of h types = option_map (λ callee. record { callee = callee; inputs = types; outputs = h.results }) (callee_of h)

abbrev pub References : Type 0
References = List (ReferenceOf (List ℕ) AttrTerm)

-- whether a reference has these parts
abbrev pub has_parts : List (List ℕ) → ReferenceOf (List ℕ) AttrTerm → Bool
has_parts parts p = pointwise bytes_eq parts p.1

-- the references with one more, unless it is among them
abbrev pub with_reference : References → ReferenceOf (List ℕ) AttrTerm → References
with_reference seen p = if list_any (has_parts p.1) seen then seen else seen ++ p ∷ []

-- the references with those in an attribute, depth first
abbrev mutual
  pub with_symbols : References → AttrTerm → References
  with_symbols seen (IntegerOf ty value) = seen
  with_symbols seen (String bytes) = seen
  with_symbols seen (TypeOf ty) = seen
  with_symbols seen Flag = seen
  with_symbols seen (Array items) = with_each seen items
  with_symbols seen (Dictionary entries) = with_entries seen entries
  with_symbols seen (Symbol parts) = with_reference seen (Symbol parts, parts)
  with_symbols seen (DenseArray ty values) = seen
  with_symbols seen (Overflow nsw nuw) = seen
  with_symbols seen (OpaqueOf text ty) = seen

  pub with_each : References → AttrTerms → References
  with_each seen no_attrs = seen
  with_each seen (next_attr a rest) = with_each (with_symbols seen a) rest

  pub with_entries : References → EntryTerms → References
  with_entries seen no_entries = seen
  with_entries seen (next_entry key a rest) = with_entries (with_symbols seen a) rest

-- the references with those in a dictionary, in the order of its keys
abbrev pub with_dictionary : References → List (List ℕ × AttrTerm) → References
with_dictionary seen [] = seen
with_dictionary seen (e ∷ es) = with_dictionary (with_symbols seen e.1) es

-- the references of an operation, each once, in the order of first occurrence: properties, then attributes
abbrev pub references_of : Head → References
references_of h = with_dictionary (with_dictionary [] h.properties) h.attributes

-- the parent operation, if there is one
abbrev pub parent_in : List (StepOf (List ℕ) TypeTerm AttrTerm) → Option ℕ
parent_in [] = None
parent_in (a ∷ path) = Some (head a.parent).id

-- the parent, if it is a symbol table
abbrev pub home_of : List (StepOf (List ℕ) TypeTerm AttrTerm) → Option ℕ
home_of [] = None
home_of (a ∷ path) = if is_table (head a.parent).name then Some (head a.parent).id else None

-- the nearest symbol table around an operation; the root is its own, if it is one
abbrev pub table_at : Head → List (StepOf (List ℕ) TypeTerm AttrTerm) → Option ℕ
table_at h [] = if is_table h.name then Some h.id else None
table_at h (a ∷ path) = table_in is_table (a ∷ path)

-- the role of an operation, given its parent, its symbol tables and the types of its operands
abbrev pub role_from : Option ℕ → Option ℕ → Option ℕ → Head → List (Option TypeTerm) → Role
role_from parent home table h types = record {
  parent = parent;
  home = home;
  table = table;
  is_table = is_table h.name;
  symbol = symbol_of h;
  name = name_of h;
  is_private = is_private h;
  references = references_of h;
  call = call_of h types;
  function = signature_of h;
}

-- the role of an operation at its position in the tree
abbrev pub role : Operation → OpWithPath → Role
role t s =
    role_from (parent_in s.path) (home_of s.path) (table_at (head s.here) s.path) (head s.here)
    (map (λ v. type_of_value v t) (head s.here).operands)

-- the role of operation x, if it is in the tree
abbrev pub role_of : Operation → ℕ → Option Role
role_of t x = option_map (role t) (op_with_path x t)
