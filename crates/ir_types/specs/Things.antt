-- The state of a context: lists of names, types and attributes; the index of an item is its id.
use Rattle.std.specs.Prelude.{ℕ, ◌<◌, ◌≡◌, Bool, List, ◌++◌, length, Option, None, Some}
use Rattle.std.specs.List.{All}
use Rattle.ir_types.specs.declared.node.TypeNode.{TypeNode}
use Rattle.ir_types.specs.declared.node.TypeNode.TheVariants as type
use Rattle.ir_types.specs.declared.node.AttrNode.{AttrNode}
use Rattle.ir_types.specs.declared.node.AttrNode.TheVariants as attr

-- the bytes of the names, the nodes of the types and attributes; and whether unknown types and attributes are read as
-- opaque ones, which never changes
pub record ContextModel : Type 0 where
  pub names : List (List ℕ)
  pub types : List TypeNode
  pub attrs : List AttrNode
  pub opaque : Bool

-- ids that are valid in the context
abbrev pub IsName : ContextModel → ℕ → Type 0
IsName c n = n < length c.names

abbrev pub IsType : ContextModel → ℕ → Type 0
IsType c n = n < length c.types

abbrev pub IsAttr : ContextModel → ℕ → Type 0
IsAttr c n = n < length c.attrs

-- the types in a type's node are among the first n
abbrev pub TypesBelow : ℕ → TypeNode → Type 0
TypesBelow n (type.Int sign width) = Unit {0}
TypesBelow n type.Index = Unit {0}
TypesBelow n (type.Func inputs outputs) = All (λ t. t < n) inputs × All (λ t. t < n) outputs
TypesBelow n (type.Memref dims elem) = elem < n
TypesBelow n (type.Opaque text) = Unit {0}

-- an optional type is among the first n
abbrev pub IsBelow : ℕ → Option ℕ → Type 0
IsBelow n None = Unit {0}
IsBelow n (Some t) = t < n

-- the names, types and attributes in an attribute's node are among the first ones
abbrev pub PartsBelow : ℕ → ℕ → ℕ → AttrNode → Type 0
PartsBelow names types attrs (attr.Int ty value) = ty < types
PartsBelow names types attrs (attr.Str name) = name < names
PartsBelow names types attrs (attr.Ty ty) = ty < types
PartsBelow names types attrs attr.Unit = Unit {0}
PartsBelow names types attrs (attr.Array items) = All (λ a. a < attrs) items
PartsBelow names types attrs (attr.Dict entries) = All (λ (e : ℕ × ℕ). e.0 < names) entries × All (λ (e : ℕ × ℕ). e.1 < attrs) entries
PartsBelow names types attrs (attr.Sym parts) = All (λ n. n < names) parts
PartsBelow names types attrs (attr.Dense elem values) = elem < types
PartsBelow names types attrs (attr.Overflow nsw nuw) = Unit {0}
PartsBelow names types attrs (attr.Opaque text ty) = IsBelow types ty

-- every id in a node is valid
abbrev pub TypeIsOf : ContextModel → TypeNode → Type 0
TypeIsOf c node = TypesBelow (length c.types) node

abbrev pub AttrIsOf : ContextModel → AttrNode → Type 0
AttrIsOf c node = PartsBelow (length c.names) (length c.types) (length c.attrs) node

-- one list is a prefix of another
abbrev pub IsPreceding : {A : Type 0} → List A → List A → Type 0
IsPreceding {A} xs ys = (more : List A) × (ys ≡ xs ++ more)

-- a context with more items appended: no id changes its meaning
pub record IsExtendedBy (old new : ContextModel) : Type 0 where
  pub names : IsPreceding old.names new.names
  pub types : IsPreceding old.types new.types
  pub attrs : IsPreceding old.attrs new.attrs
  pub opaque : new.opaque ≡ old.opaque
