-- Operations that name no symbol.
use Rattle.std.specs.Prelude.{◌≡◌, ℕ, List, [], ◌∷◌, Bool, true, false, ◌&&◌, Option, None}
use Rattle.ir_event.specs.types.Terms.{AttrTerm, OpaqueOf, IntegerOf, String, TypeOf, Flag, Array, Dictionary, Symbol}
use Rattle.ir_event.specs.types.Terms.{DenseArray, Overflow}
use Rattle.ir_event.specs.types.Words.{is_table}
use Rattle.listeners_symbols.specs.declared.role.Call.{Call}
use Rattle.listeners_symbols.specs.declared.role.Role.{Role as Numbers}
use Rattle.listeners_symbols.specs.declared.role.Tables.{Tables}
use Rattle.listeners_symbols.specs.Roles.{Head, is_function}

-- whether an attribute is no string, and has no other attributes
abbrev pub is_nameless : AttrTerm → Bool
is_nameless (IntegerOf _ _) = true
is_nameless (String _) = false
is_nameless (TypeOf _) = true
is_nameless Flag = true
is_nameless (Array _) = false
is_nameless (Dictionary _) = false
is_nameless (Symbol _) = false
is_nameless (DenseArray _ _) = true
is_nameless (Overflow _ _) = true
is_nameless (OpaqueOf _ _) = true

-- whether that holds for each attribute of a dictionary
abbrev pub are_nameless : List (List ℕ × AttrTerm) → Bool
are_nameless [] = true
are_nameless (e ∷ es) = is_nameless e.1 && are_nameless es

-- an operation that is no symbol table and no function, and whose attributes name nothing
pub record NamesNothing (h : Head) : Type 0 where
  pub table : is_table h.name ≡ false
  pub function : is_function h.name ≡ false
  pub properties : are_nameless h.properties ≡ true
  pub attributes : are_nameless h.attributes ≡ true

-- the role of such an operation, given its symbol tables and its call
pub record IsNamelessRole (tables : Tables) (k : Option Call) (r : Numbers) : Type 0 where
  pub parent : r.parent ≡ tables.parent
  pub home : r.home ≡ tables.home
  pub table : r.table ≡ tables.table
  pub is_table : r.is_table ≡ false
  pub symbol : r.symbol ≡ None
  pub name : r.name ≡ None
  pub is_private : r.is_private ≡ false
  pub references : r.references.items ≡ []
  pub call : r.call ≡ k
  pub function : r.function ≡ None
