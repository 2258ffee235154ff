-- The analysis: the symbols that a module defines, and the definitions to which its references resolve (Symbols and
-- Symbol Tables).
use Rattle.std.specs.Prelude.{ℕ, List, [], ◌∷◌, ◌++◌, map, eqb, Bool, true, false, ◌&&◌, not, if◌then◌else◌, Option}
use Rattle.std.specs.Prelude.{Some, None, is_some}
use Rattle.std.specs.List.{list_any}
use Rattle.std.specs.Ordering.{nat_cmp}
use Rattle.std.specs.FinMap.Entries.{put}
use Rattle.std.specs.Str.{bytes_eq}
use Rattle.std.specs.Option.{option_eq}
use Rattle.std.specs.Cmp.Lexicographic.{pointwise}
use Rattle.ir_event.specs.types.Terms.{TypeTerm, AttrTerm}
use Rattle.ir_event.specs.trees.Meaning.{Operation}
use Rattle.ir_event.specs.tree_laws.Stands.{op_with_path_id, stands}
use Rattle.ir_event.specs.Rows.{RowTerm, Op, Name, Path, Tag}
use Rattle.ir_event.specs.Tags.{tag_number}
use Rattle.ir_event.specs.declared.tag.Tag.TheVariants as word
use Rattle.ir_event.specs.types.SameTypes.{same_type}
use Rattle.listeners_symbols.specs.declared.definers.Definers.{Definers}
use Rattle.listeners_symbols.specs.declared.definers.Definers.TheVariants as definers
use Rattle.listeners_symbols.specs.Roles.{ReferenceOf, CallOf, RoleOf, OpWithPath, role, role_of}

-- the roles of all operations, ordered by id
abbrev pub RolesOf : Type 0 → Type 0 → Type 0 → Type 0
RolesOf N T A = List (ℕ × RoleOf N T A)

abbrev pub roles_in : Operation → List OpWithPath → RolesOf (List ℕ) TypeTerm AttrTerm
roles_in t [] = []
roles_in t (s ∷ ss) = put nat_cmp (op_with_path_id s) (role t s) (roles_in t ss)

abbrev pub roles_by_id : Operation → RolesOf (List ℕ) TypeTerm AttrTerm
roles_by_id t = roles_in t (stands [] t)

-- a definition: the symbol table and the name, and the operation
abbrev pub DefinitionOf : Type 0 → Type 0
DefinitionOf N = (ℕ × N) × ℕ

abbrev pub defined : {N : Type 0} → Option ℕ → Option N → ℕ → List (DefinitionOf N)
defined (Some table) (Some name) x = ((table, name), x) ∷ []
defined _ _ x = []

-- the definitions, ordered by operation id
abbrev pub definitions : {N T A : Type 0} → RolesOf N T A → List (DefinitionOf N)
definitions [] = []
definitions (e ∷ es) = defined e.1.home e.1.symbol e.0 ++ definitions es

-- the name of an operation that isn't a definition, because it has no symbol table as parent or no symbol
abbrev pub name_unless : {N : Type 0} → Bool → Option N → List N
name_unless is_definition None = []
name_unless true (Some name) = []
name_unless false (Some name) = name ∷ []

abbrev pub undefined : {N : Type 0} → Option ℕ → Option N → Option N → List N
undefined home symbol name = name_unless (is_some home && is_some symbol) name

-- the names of the operations that aren't definitions
abbrev pub undefined_names : {N T A : Type 0} → RolesOf N T A → List N
undefined_names [] = []
undefined_names (e ∷ es) = undefined e.1.home e.1.symbol e.1.name ++ undefined_names es

-- the names that operations which aren't definitions may define as symbols: none if only listed operations define
-- symbols
abbrev pub possible_names : {N T A : Type 0} → Definers → RolesOf N T A → List N
possible_names definers.Listed es = []
possible_names definers.AnyNamed es = undefined_names es

-- the role of each operation, if it has one
abbrev pub RoleAt : Type 0 → Type 0 → Type 0 → Type 0
RoleAt N T A = ℕ → Option (RoleOf N T A)

-- whether an operation is a symbol table
abbrev pub says_table : {N T A : Type 0} → Option (RoleOf N T A) → Bool
says_table None = false
says_table (Some r) = r.is_table

-- the inputs and outputs of an operation, if it is a function
abbrev pub function_at : {N T A : Type 0} → Option (RoleOf N T A) → Option (List T × List T)
function_at None = None
function_at (Some r) = r.function

-- a row: `def #T @n #x`, `duplicate #T @n #x`, `use #y @p #x`, `unresolved #y @p`, `unknown #y @p`, `mismatch #y #x`
pub data LineOf (N A : Type 0) : Type 0 where
  Definition : ℕ → N → ℕ → LineOf N A
  Duplicate : ℕ → N → ℕ → LineOf N A
  Use : ℕ → A → ℕ → LineOf N A
  Unresolved : ℕ → A → LineOf N A
  Unknown : ℕ → A → LineOf N A
  Mismatch : ℕ → ℕ → LineOf N A

-- `same_name` decides whether two names are equal
module _ {N : Type 0} (same_name : N → N → Bool) where
  -- the operation that defines a name in a symbol table: the one with the lowest id
  abbrev pub first_defined : ℕ → N → List (DefinitionOf N) → Option ℕ
  first_defined table name [] = None
  first_defined table name (d ∷ ds) =
      if eqb d.0.0 table && same_name d.0.1 name then Some d.1 else first_defined table name ds

  -- whether another operation defines the same name in the same symbol table first
  abbrev pub is_duplicate : List (DefinitionOf N) → DefinitionOf N → Bool
  is_duplicate ds d = not (option_eq eqb (first_defined d.0.0 d.0.1 ds) (Some d.1))

  -- the operation that defines a name in operation x, which must be a symbol table
  abbrev pub look_up : {T A : Type 0} → RoleAt N T A → List (DefinitionOf N) → ℕ → N → Option ℕ
  look_up roles ds x name = if says_table (roles x) then first_defined x name ds else None

  -- the same in an operation, if there is one
  abbrev pub look_in : {T A : Type 0} → RoleAt N T A → List (DefinitionOf N) → Option ℕ → N → Option ℕ
  look_in roles ds None name = None
  look_in roles ds (Some x) name = look_up roles ds x name

  -- the operation to which a reference resolves: the first part is looked up in a symbol table, each later part in
  -- the operation of the part before it
  abbrev pub resolve : {T A : Type 0} → RoleAt N T A → List (DefinitionOf N) → Option ℕ → List N → Option ℕ
  resolve roles ds found [] = found
  resolve roles ds found (name ∷ names) = resolve roles ds (look_in roles ds found name) names

  -- whether a name is in the list
  abbrev pub is_among : List N → N → Bool
  is_among names name = list_any (same_name name) names

-- whether a function has the types of a call's operands and results, where `same` decides whether two types are equal
abbrev pub fits : {N T : Type 0} → (T → T → Bool) → CallOf N T → Option (List T × List T) → Bool
fits same call None = false
fits same call (Some f) = pointwise (option_eq same) (map Some f.0) call.inputs && pointwise same f.1 call.outputs

-- the rows of definitions
abbrev pub definition_lines : {N A : Type 0} → List (DefinitionOf N) → List (LineOf N A)
definition_lines [] = []
definition_lines (d ∷ ds) = Definition d.0.0 d.0.1 d.1 ∷ definition_lines ds

-- the rows of the duplicates among all definitions
abbrev pub duplicate_lines : {N A : Type 0} → (N → N → Bool) → List (DefinitionOf N) → List (DefinitionOf N)
    → List (LineOf N A)
duplicate_lines same_name all [] = []
duplicate_lines same_name all (d ∷ ds) =
    if is_duplicate same_name all d then Duplicate d.0.0 d.0.1 d.1 ∷ duplicate_lines same_name all ds
    else duplicate_lines same_name all ds

-- the row of a reference of operation y, among those that resolve, or among the others; a reference that doesn't
-- resolve is unknown if it may name a symbol of an operation that isn't a definition
abbrev pub reference_line : {N A : Type 0} → Bool → Bool → ℕ → A → Option ℕ → List (LineOf N A)
reference_line true may y p (Some x) = Use y p x ∷ []
reference_line true may y p None = []
reference_line false may y p (Some x) = []
reference_line false true y p None = Unknown y p ∷ []
reference_line false false y p None = Unresolved y p ∷ []

-- the rows of an operation's references, where `possible` decides whether a name may be such a symbol
abbrev pub reference_lines : {N T A : Type 0} → (N → N → Bool) → RoleAt N T A → List (DefinitionOf N) → (N → Bool)
    → Bool → ℕ → Option ℕ → List (ReferenceOf N A) → List (LineOf N A)
reference_lines same_name roles ds possible resolved y table [] = []
reference_lines same_name roles ds possible resolved y table (p ∷ ps) =
    reference_line resolved (list_any possible p.1) y p.0 (resolve same_name roles ds table p.1)
    ++ reference_lines same_name roles ds possible resolved y table ps

abbrev pub all_reference_lines : {N T A : Type 0} → (N → N → Bool) → RoleAt N T A → List (DefinitionOf N)
    → (N → Bool) → Bool → RolesOf N T A → List (LineOf N A)
all_reference_lines same_name roles ds possible resolved [] = []
all_reference_lines same_name roles ds possible resolved (e ∷ es) =
    reference_lines same_name roles ds possible resolved e.0 e.1.table e.1.references
    ++ all_reference_lines same_name roles ds possible resolved es

-- the row of a call of operation y that resolves to an operation that isn't a function of its types
abbrev pub mismatch_line : {N T A : Type 0} → (T → T → Bool) → RoleAt N T A → ℕ → CallOf N T → Option ℕ
    → List (LineOf N A)
mismatch_line same roles y call None = []
mismatch_line same roles y call (Some x) = if fits same call (function_at (roles x)) then [] else Mismatch y x ∷ []

abbrev pub call_line : {N T A : Type 0} → (N → N → Bool) → (T → T → Bool) → RoleAt N T A → List (DefinitionOf N) → ℕ
    → Option ℕ → Option (CallOf N T) → List (LineOf N A)
call_line same_name same roles ds y table None = []
call_line same_name same roles ds y table (Some call) =
    mismatch_line same roles y call (resolve same_name roles ds table call.callee)

abbrev pub mismatch_lines : {N T A : Type 0} → (N → N → Bool) → (T → T → Bool) → RoleAt N T A → List (DefinitionOf N)
    → RolesOf N T A → List (LineOf N A)
mismatch_lines same_name same roles ds [] = []
mismatch_lines same_name same roles ds (e ∷ es) =
    call_line same_name same roles ds e.0 e.1.table e.1.call ++ mismatch_lines same_name same roles ds es

-- the rows: definitions, duplicates, references that resolve, references that don't, and calls that don't match
abbrev pub lines_with : {N T A : Type 0} → (N → N → Bool) → (T → T → Bool) → RoleAt N T A → List (DefinitionOf N)
    → (N → Bool) → RolesOf N T A → List (LineOf N A)
lines_with same_name same roles ds possible es =
    definition_lines ds
    ++ (duplicate_lines same_name ds ds
    ++ (all_reference_lines same_name roles ds possible true es
    ++ (all_reference_lines same_name roles ds possible false es ++ mismatch_lines same_name same roles ds es)))

abbrev pub symbol_lines : {N T A : Type 0} → (N → N → Bool) → (T → T → Bool) → Definers → RoleAt N T A
    → RolesOf N T A → List (LineOf N A)
symbol_lines same_name same which roles es =
    lines_with same_name same roles (definitions es) (is_among same_name (possible_names which es)) es

-- the symbols of a tree
abbrev pub symbols_of : Definers → Operation → List (LineOf (List ℕ) AttrTerm)
symbols_of which t = symbol_lines bytes_eq same_type which (role_of t) (roles_by_id t)

-- the cells of a row
abbrev pub line_cells : {N A C : Type 0} → (ℕ → C) → (ℕ → C) → (N → C) → (A → C) → LineOf N A → List C
line_cells tag op name path (Definition t n x) = tag (tag_number word.Def) ∷ op t ∷ name n ∷ op x ∷ []
line_cells tag op name path (Duplicate t n x) = tag (tag_number word.Duplicate) ∷ op t ∷ name n ∷ op x ∷ []
line_cells tag op name path (Use y p x) = tag (tag_number word.Use) ∷ op y ∷ path p ∷ op x ∷ []
line_cells tag op name path (Unresolved y p) = tag (tag_number word.Unresolved) ∷ op y ∷ path p ∷ []
line_cells tag op name path (Unknown y p) = tag (tag_number word.Unknown) ∷ op y ∷ path p ∷ []
line_cells tag op name path (Mismatch y x) = tag (tag_number word.Mismatch) ∷ op y ∷ op x ∷ []

-- the rows of a tree
abbrev pub symbol_rows : Definers → Operation → List RowTerm
symbol_rows which t = map (line_cells Tag Op Name Path) (symbols_of which t)
