-- The meaning of an id: the bytes of a name, and a type or attribute with its components instead of their ids.
use Rattle.std.specs.Prelude.{ℕ, ℤ, Bool, List, [], ◌∷◌, Option, None, Some, map, slice_index_or}
use Rattle.ir_types_interner.specs.Built.{built}
use Rattle.ir_types.specs.declared.node.Sign.{Sign}
use Rattle.ir_types.specs.declared.node.TypeNode.{TypeNode}
use Rattle.ir_types.specs.declared.node.TypeNode.TheVariants as type
use Rattle.ir_types.specs.declared.node.AttrNode.{AttrNode}
use Rattle.ir_types.specs.declared.node.AttrNode.TheVariants as attr
use Rattle.ir_types.specs.Things.{ContextModel}

-- types; an opaque one is given by its text
mutual
  pub data TypeTerm : Type 0 where
    Integer : Sign → ℕ → TypeTerm
    Index : TypeTerm
    Function : TypeTerms → TypeTerms → TypeTerm
    Memref : List (Option ℕ) → TypeTerm → TypeTerm
    OpaqueType : List ℕ → TypeTerm

  -- lists of types
  pub data TypeTerms : Type 0 where
    no_types : TypeTerms
    next_type : TypeTerm → TypeTerms → TypeTerms

-- attributes; an integer is given by its bits, an opaque one by its text and an optional type
mutual
  pub data AttrTerm : Type 0 where
    IntegerOf : TypeTerm → ℕ → AttrTerm
    String : List ℕ → AttrTerm
    TypeOf : TypeTerm → AttrTerm
    Flag : AttrTerm
    Array : AttrTerms → AttrTerm
    Dictionary : EntryTerms → AttrTerm
    Symbol : List (List ℕ) → AttrTerm
    DenseArray : TypeTerm → List ℤ → AttrTerm
    Overflow : Bool → Bool → AttrTerm
    OpaqueOf : List ℕ → Option TypeTerm → AttrTerm

  -- lists of attributes
  pub data AttrTerms : Type 0 where
    no_attrs : AttrTerms
    next_attr : AttrTerm → AttrTerms → AttrTerms

  -- lists of entries, each with the bytes of a key and an attribute
  pub data EntryTerms : Type 0 where
    no_entries : EntryTerms
    next_entry : List ℕ → AttrTerm → EntryTerms → EntryTerms

-- the bytes of a name
abbrev pub name_term : ContextModel → ℕ → List ℕ
name_term c n = slice_index_or c.names n []

-- the type with an id, in a list of known types
abbrev pub type_at : List TypeTerm → ℕ → TypeTerm
type_at known n = slice_index_or known n Index

abbrev pub types_at : List TypeTerm → List ℕ → TypeTerms
types_at known [] = no_types
types_at known (n ∷ ns) = next_type (type_at known n) (types_at known ns)

abbrev pub some_type_at : List TypeTerm → Option ℕ → Option TypeTerm
some_type_at known None = None
some_type_at known (Some n) = Some (type_at known n)

-- the meaning of a type's node
abbrev pub type_from : List TypeTerm → TypeNode → TypeTerm
type_from known (type.Int sign width) = Integer sign width
type_from known type.Index = Index
type_from known (type.Func inputs outputs) = Function (types_at known inputs) (types_at known outputs)
type_from known (type.Memref dims elem) = Memref dims (type_at known elem)
type_from known (type.Opaque text) = OpaqueType text

-- the types of a context, in order
abbrev pub type_terms : ContextModel → List TypeTerm
type_terms c = built type_from c.types

-- the meaning of a type's id
abbrev pub type_term : ContextModel → ℕ → TypeTerm
type_term c n = type_at (type_terms c) n

-- the meaning of a type's node in a context
abbrev pub type_node_term : ContextModel → TypeNode → TypeTerm
type_node_term c node = type_from (type_terms c) node

-- the attribute with an id, in a list of known attributes
abbrev pub attr_at : List AttrTerm → ℕ → AttrTerm
attr_at known n = slice_index_or known n Flag

abbrev pub attrs_at : List AttrTerm → List ℕ → AttrTerms
attrs_at known [] = no_attrs
attrs_at known (n ∷ ns) = next_attr (attr_at known n) (attrs_at known ns)

abbrev pub entries_at : List (List ℕ) → List AttrTerm → List (ℕ × ℕ) → EntryTerms
entries_at names known [] = no_entries
entries_at names known (e ∷ es) = next_entry (slice_index_or names e.0 []) (attr_at known e.1) (entries_at names known es)

-- the meaning of an attribute's node
abbrev pub attr_from : List (List ℕ) → List TypeTerm → List AttrTerm → AttrNode → AttrTerm
attr_from names types known (attr.Int ty bits) = IntegerOf (type_at types ty) bits
attr_from names types known (attr.Str name) = String (slice_index_or names name [])
attr_from names types known (attr.Ty ty) = TypeOf (type_at types ty)
attr_from names types known attr.Unit = Flag
attr_from names types known (attr.Array items) = Array (attrs_at known items)
attr_from names types known (attr.Dict entries) = Dictionary (entries_at names known entries)
attr_from names types known (attr.Sym parts) = Symbol (map (λ n. slice_index_or names n []) parts)
attr_from names types known (attr.Dense elem values) = DenseArray (type_at types elem) values
attr_from names types known (attr.Overflow nsw nuw) = Overflow nsw nuw
attr_from names types known (attr.Opaque text ty) = OpaqueOf text (some_type_at types ty)

-- the attributes of a context, in order
abbrev pub attr_terms : ContextModel → List AttrTerm
attr_terms c = built (attr_from c.names (type_terms c)) c.attrs

-- the meaning of an attribute's id
abbrev pub attr_term : ContextModel → ℕ → AttrTerm
attr_term c n = attr_at (attr_terms c) n

-- the meaning of an attribute's node in a context
abbrev pub attr_node_term : ContextModel → AttrNode → AttrTerm
attr_node_term c node = attr_from c.names (type_terms c) (attr_terms c) node
