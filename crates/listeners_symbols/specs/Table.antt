-- Roles in numbers of a context, and tables of them.
use Rattle.std.specs.Prelude.{◌≡◌, ◌⊎◌, ℕ, List, [], map, eqb, Bool, true, false, if◌then◌else◌, Option, Some, None}
use Rattle.std.specs.Prelude.{option_map, is_some, IfSome}
use Rattle.std.specs.List.{All, list_any}
use Rattle.ir_event.specs.types.Things.{ContextModel, IsName, IsType, IsAttr, IsExtendedBy}
use Rattle.ir_event.specs.types.Terms.{TypeTerm, AttrTerm, name_term, type_term, attr_term}
use Rattle.ir_event.specs.types.Sound.{IsSound}
use Rattle.ir_event.specs.trees.Tree.{HeadOf, Op, head}
use Rattle.ir_event.specs.trees.Maps.{map_head}
use Rattle.ir_event.specs.trees.Meaning.{Operation}
use Rattle.ir_event.specs.trees.Ids.{find, has_id}
use Rattle.ir_event.specs.tree_laws.Reads.{parent_of}
use Rattle.ir_event.specs.declared.event.Event.{Event}
use Rattle.ir_event.specs.declared.event.Event.TheVariants.{Put, Take, SetOperand, SetEntry, Shift}
use Rattle.ir_event.specs.Rows.{IsSymbol}
use Rattle.ir_event.specs.declared.world.World.{World}
use Rattle.listeners_support.specs.Map.{IdMap}
use Rattle.listeners_support.specs.Map as idmap
use Rattle.listeners_symbols.specs.declared.role.Role.{Role as Numbers}
use Rattle.listeners_symbols.specs.declared.role.Reference.{Reference}
use Rattle.listeners_symbols.specs.declared.role.Call.{Call}
use Rattle.listeners_symbols.specs.declared.role.Signature.{Signature}
use Rattle.listeners_symbols.specs.declared.role.Tables.{Tables}
use Rattle.listeners_symbols.specs.Roles.{ReferenceOf, CallOf, RoleOf, Role, Head, callee_of, role_of, role_from}

-- an entry as a role in numbers
abbrev pub reference_of : Reference → ReferenceOf ℕ ℕ
reference_of p = (p.path, p.parts.items)

abbrev pub call_numbers : Call → CallOf ℕ ℕ
call_numbers k = record { callee = k.callee.items; inputs = map Some k.inputs.items; outputs = k.outputs.items }

abbrev pub signature_numbers : Signature → List ℕ × List ℕ
signature_numbers s = (s.inputs.items, s.outputs.items)

abbrev pub role_numbers : Numbers → RoleOf ℕ ℕ ℕ
role_numbers r = record {
  parent = r.parent;
  home = r.home;
  table = r.table;
  is_table = r.is_table;
  symbol = r.symbol;
  name = r.name;
  is_private = r.is_private;
  references = map reference_of r.references.items;
  call = option_map call_numbers r.call;
  function = option_map signature_numbers r.function;
}

-- a role with f applied to each name, g to each type and h to each attribute
abbrev pub map_reference : {N A M B : Type 0} → (N → M) → (A → B) → ReferenceOf N A → ReferenceOf M B
map_reference f h p = (h p.0, map f p.1)

abbrev pub map_call : {N T M U : Type 0} → (N → M) → (T → U) → CallOf N T → CallOf M U
map_call f g k = record { callee = map f k.callee; inputs = map (option_map g) k.inputs; outputs = map g k.outputs }

abbrev pub map_signature : {T U : Type 0} → (T → U) → List T × List T → List U × List U
map_signature g s = (map g s.0, map g s.1)

abbrev pub map_role : {N T A M U B : Type 0} → (N → M) → (T → U) → (A → B) → RoleOf N T A → RoleOf M U B
map_role f g h r = record {
  parent = r.parent;
  home = r.home;
  table = r.table;
  is_table = r.is_table;
  symbol = option_map f r.symbol;
  name = option_map f r.name;
  is_private = r.is_private;
  references = map (map_reference f h) r.references;
  call = option_map (map_call f g) r.call;
  function = option_map (map_signature g) r.function;
}

-- the role of an entry, in terms of contents
abbrev pub role_meaning : ContextModel → Numbers → Role
role_meaning c r = map_role (name_term c) (type_term c) (attr_term c) (role_numbers r)

abbrev pub reference_meaning : ContextModel → Reference → ReferenceOf (List ℕ) AttrTerm
reference_meaning c p = map_reference (name_term c) (attr_term c) (reference_of p)

abbrev pub call_meaning : ContextModel → Call → CallOf (List ℕ) TypeTerm
call_meaning c k = map_call (name_term c) (type_term c) (call_numbers k)

abbrev pub signature_meaning : ContextModel → Signature → List TypeTerm × List TypeTerm
signature_meaning c s = map_signature (type_term c) (signature_numbers s)

abbrev pub head_meaning : ContextModel → HeadOf ℕ ℕ ℕ → Head
head_meaning c h = map_head (name_term c) (type_term c) (attr_term c) h

-- the numbers of an entry are in the context
pub record ReferenceIsOf (c : ContextModel) (p : Reference) : Type 0 where
  pub path : IsAttr c p.path
  pub is : IsSymbol (attr_term c p.path)
  pub parts : All (IsName c) p.parts.items

pub record CallIsOf (c : ContextModel) (k : Call) : Type 0 where
  pub callee : All (IsName c) k.callee.items
  pub inputs : All (IsType c) k.inputs.items
  pub outputs : All (IsType c) k.outputs.items

pub record SignatureIsOf (c : ContextModel) (s : Signature) : Type 0 where
  pub inputs : All (IsType c) s.inputs.items
  pub outputs : All (IsType c) s.outputs.items

pub record RoleIsOf (c : ContextModel) (r : Numbers) : Type 0 where
  pub symbol : IfSome r.symbol (IsName c)
  pub name : IfSome r.name (IsName c)
  pub references : All (ReferenceIsOf c) r.references.items
  pub call : IfSome r.call (CallIsOf c)
  pub function : IfSome r.function (SignatureIsOf c)

-- a table: the entry of an operation, if it has one
abbrev pub Table : Type 0
Table = ℕ → Option Numbers

-- the entry is this role, if there is one, in numbers of a context
pub record Says (c : ContextModel) (r : Option Role) (kept : Option Numbers) : Type 0 where
  pub is : option_map (role_meaning c) kept ≡ r
  pub known : IfSome kept (RoleIsOf c)

-- a role that contributes nothing to a report, and that no reference resolves through
pub record IsPlain {N T A : Type 0} (r : RoleOf N T A) : Type 0 where
  pub is_table : r.is_table ≡ false
  pub symbol : r.symbol ≡ None
  pub name : r.name ≡ None
  pub references : r.references ≡ []
  pub call : r.call ≡ None
  pub function : r.function ≡ None

-- an operation with a plain role that has no entry
pub record IsOmitted (r : Option Role) (kept : Option Numbers) : Type 0 where
  pub none : kept ≡ None
  pub role : Role
  pub is : r ≡ Some role
  pub simple : IsPlain role

-- the entry is this role, or a plain role has no entry
abbrev pub MaySay : ContextModel → Option Role → Option Numbers → Type 0
MaySay c r kept = Says c r kept ⊎ IsOmitted r kept

-- an operation with an entry has a parent with an entry, or no parent
abbrev pub HasParents : Table → Type 0
HasParents table = (x : ℕ) (r : Numbers) → table x ≡ Some r → IfSome r.parent (λ p. is_some (table p) ≡ true)

-- the table keeps the roles of the tree's operations, in numbers of a context, but it may omit plain roles
pub record Keeps (c : ContextModel) (t : Operation) (table : Table) : Type 0 where
  pub says : (x : ℕ) → MaySay c (role_of t x) (table x)
  pub parents : HasParents table

-- the numbers are those of a sound context that has grown to this one, so equal things have equal numbers
pub record IsKept (c : ContextModel) (t : Operation) (table : Table) : Type 0 where
  pub from : ContextModel
  pub sound : IsSound from
  pub grown : IsExtendedBy from c
  pub keeps : Keeps from t table

-- the entry of x is right if the entry of its parent is
abbrev pub IsRight : ContextModel → Operation → ℕ → Table → Option Numbers → Type 0
IsRight c t x table kept = has_id x t ≡ true → ((p : ℕ) → parent_of x t ≡ Some p → Says c (role_of t p) (table p))
    → Says c (role_of t x) kept

-- the same for an entry that may be omitted
abbrev pub MayBeRight : ContextModel → Operation → ℕ → Table → Option Numbers → Type 0
MayBeRight c t x table kept = has_id x t ≡ true
    → ((p : ℕ) → parent_of x t ≡ Some p → Says c (role_of t p) (table p)) → MaySay c (role_of t x) kept

-- the role was entered for x; a plain role may be omitted if x had no entry
abbrev pub Entered : IdMap Numbers → IdMap Numbers → ℕ → Numbers → Type 0
Entered before after x r = idmap.Updates before after x (Some r)
    ⊎ (IsPlain (role_numbers r) × (idmap.get before x ≡ None) × ((y : ℕ) → idmap.get after y ≡ idmap.get before y))

-- the table after the entry of x was updated: it is right if the entry of the parent was there and right
pub record Renewed (c : ContextModel) (t : Operation) (x : ℕ) (before after : Table) : Type 0 where
  pub own : MayBeRight c t x before (after x)
  pub stays : is_some (before x) ≡ true → is_some (after x) ≡ true
  pub parent : (p : ℕ) → parent_of x t ≡ Some p → is_some (before p) ≡ true
  pub parents : (r : Numbers) → after x ≡ Some r → IfSome r.parent (λ p. is_some (before p) ≡ true)
  pub others : (y : ℕ) → eqb x y ≡ false → after y ≡ before y

-- the table keeps the roles of some operations of a tree
abbrev pub AreRight : ContextModel → Operation → Table → Type 0
AreRight c t table = (x : ℕ) (r : Numbers) → table x ≡ Some r → Says c (role_of t x) (Some r)

-- the table after the roles of more operations of a tree were added
pub record Added (c : ContextModel) (t : Operation) (xs : List ℕ) (before after : Table) : Type 0 where
  pub right : ((x : ℕ) → list_any (λ y. eqb y x) xs ≡ true → has_id x t ≡ true) → AreRight c t before
      → AreRight c t after
  pub says : ((x : ℕ) → list_any (λ y. eqb y x) xs ≡ true → has_id x t ≡ true) → AreRight c t before → (x : ℕ)
      → list_any (λ y. eqb y x) xs ≡ true → MaySay c (role_of t x) (after x)
  pub parents : HasParents before → HasParents after
  pub others : (x : ℕ) → list_any (λ y. eqb y x) xs ≡ false → after x ≡ before x

-- the table without x
abbrev pub Dropped : ℕ → Table → Table → Type 0
Dropped x before after = (y : ℕ) → after y ≡ (if eqb x y then None else before y)

-- operation x of a tree calls nothing
abbrev pub CallsNone : Operation → ℕ → Type 0
CallsNone t x = (o : Operation) → find x t ≡ Some o → callee_of (head o) ≡ None

-- the table after an operand of x was set: unchanged if x calls nothing
abbrev pub OperandFollowed : ContextModel → Operation → ℕ → Table → Table → Type 0
OperandFollowed c t x before after = Renewed c t x before after ⊎ (CallsNone t x × ((y : ℕ) → after y ≡ before y))

-- the table after an event that led to the tree
abbrev pub Followed : ContextModel → Operation → Event → Table → Table → Type 0
Followed c t (Put x place fresh) = Renewed c t x
Followed c t (Take x place fresh) = Dropped x
Followed c t (SetOperand x k old new) = OperandFollowed c t x
Followed c t (SetEntry x part key old new) = Renewed c t x
Followed c t (Shift x old new) = Renewed c t x

-- the symbol tables of an operation whose parent p has this entry
abbrev pub tables_in : ℕ → Numbers → Tables
tables_in p r =
    record {
      parent = Some p;
      home = if r.is_table then Some p else None;
      table = if r.is_table then Some p else r.table;
    }

-- the symbol tables of operation x, given its parent
abbrev pub tables_for : Table → ℕ → Bool → Option ℕ → Option Tables
tables_for table x is_table None =
    Some (record { parent = None; home = None; table = if is_table then Some x else None })
tables_for table x is_table (Some p) = option_map (tables_in p) (table p)

-- the role read from an operation that has these symbol tables, with the types of its operands
pub record IsReadAs (c : ContextModel) (h : Head) (types : List (Option TypeTerm)) (tables : Tables)
    (r : Numbers) : Type 0 where
  pub is : role_meaning c r ≡ role_from tables.parent tables.home tables.table h types
  pub known : RoleIsOf c r

-- the tree of a world's module, in numbers
abbrev pub tree_in : World → Op
tree_in w = w.store.module_of.tree
