-- The depths of types and attributes.
use Rattle.std.specs.Prelude.{ℕ, ◌+◌, max, Bool, true, false, if◌then◌else◌, None, Some}
use Rattle.ir_types.specs.Terms.{TypeTerm, Integer, Index, Function, Memref, OpaqueType, TypeTerms, no_types, next_type, AttrTerm, IntegerOf, String, TypeOf, Flag, Array, Dictionary, Symbol, DenseArray, Overflow, OpaqueOf, AttrTerms, no_attrs, next_attr, EntryTerms, no_entries, next_entry}

-- integer types, index and opaque types
abbrev pub is_scalar : TypeTerm → Bool
is_scalar (Integer sign width) = true
is_scalar Index = true
is_scalar (OpaqueType text) = true
is_scalar _ = false

-- a leaf has depth 1, as has a memref of scalars; any other type is one deeper than its deepest component
abbrev mutual
  pub type_depth : TypeTerm → ℕ
  type_depth (Integer sign width) = 1
  type_depth Index = 1
  type_depth (Function inputs outputs) = 1 + max (types_depth inputs) (types_depth outputs)
  type_depth (Memref dims elem) = if is_scalar elem then 1 else 1 + type_depth elem
  type_depth (OpaqueType text) = 1

  -- the greatest depth, or 0 if there are none
  pub types_depth : TypeTerms → ℕ
  types_depth no_types = 0
  types_depth (next_type t ts) = max (type_depth t) (types_depth ts)

-- a type attribute, or an opaque attribute with a type, is as deep as the type; arrays and dictionaries are one deeper
-- than their deepest item
abbrev mutual
  pub attr_depth : AttrTerm → ℕ
  attr_depth (IntegerOf ty bits) = 1
  attr_depth (String bytes) = 1
  attr_depth (TypeOf ty) = type_depth ty
  attr_depth Flag = 1
  attr_depth (Array items) = 1 + attrs_depth items
  attr_depth (Dictionary entries) = 1 + entries_depth entries
  attr_depth (Symbol parts) = 1
  attr_depth (DenseArray elem values) = 1
  attr_depth (Overflow nsw nuw) = 1
  attr_depth (OpaqueOf text None) = 1
  attr_depth (OpaqueOf text (Some ty)) = type_depth ty

  pub attrs_depth : AttrTerms → ℕ
  attrs_depth no_attrs = 0
  attrs_depth (next_attr a as') = max (attr_depth a) (attrs_depth as')

  pub entries_depth : EntryTerms → ℕ
  entries_depth no_entries = 0
  entries_depth (next_entry key a es) = max (attr_depth a) (entries_depth es)
