-- Attributes that are writable: a text can denote them.
use Rattle.std.specs.Prelude.{◌≡◌, ◌≤◌, ℕ, nat_le, nat_lt, Bool, true, false, not, ◌&&◌, ◌||◌, ◌==◌, List, [], ◌∷◌, length, Option, None, Some}
use Rattle.std.specs.List.{AllByRecursion, list_all}
use Rattle.std.specs.Str.{bytes_eq}
use Rattle.ir_types.specs.declared.node.Sign.TheVariants.{Signless}
use Rattle.ir_types.specs.Limits.{most_depth, most_entries}
use Rattle.ir_types.specs.Terms.{TypeTerm, Integer, AttrTerm, IntegerOf, String, TypeOf, Flag, Array, Dictionary, Symbol, DenseArray, Overflow, OpaqueOf, AttrTerms, no_attrs, next_attr, EntryTerms, no_entries, next_entry}
use Rattle.ir_types.specs.Depths.{attr_depth}
use Rattle.ir_types.specs.Ranges.{is_value_number}
use Rattle.ir_types.specs.Readings.{is_bits_of}
use Rattle.ir_types.specs.Words.{is_inherent}
use Rattle.ir_tree.specs.Meaning.{key_before, rises}
use Rattle.ir_text_tokens.specs.declared.token.Mark.TheVariants.{Colon, DoubleColon, Less}
use Rattle.ir_text_tokens.specs.Bytes.{is_suffix}
use Rattle.ir_text_tokens.specs.Printing.{Stops}
use Rattle.ir_text_types.specs.Grammars.{Not, IsMark}
use Rattle.ir_text_types.specs.TypeReading.{many}
use Rattle.ir_text_attributes.specs.Keyed.{has_key}
use Rattle.ir_text_modules.specs.KeptAttributes.{is_attr_text}
use Rattle.ir_text_modules.specs.Written.{is_written_type}

-- the attributes of an array, and the entries of a dictionary
abbrev pub attrs_list : AttrTerms → List AttrTerm
attrs_list no_attrs = []
attrs_list (next_attr a as') = a ∷ attrs_list as'

abbrev pub entries_list : EntryTerms → List (List ℕ × AttrTerm)
entries_list no_entries = []
entries_list (next_entry key a es) = (key, a) ∷ entries_list es

-- all are bytes
abbrev pub are_bytes : List ℕ → Bool
are_bytes v = list_all (λ c. nat_lt c 256) v

-- the parts of a symbol reference: at least one, and at most as many as a text has bytes
abbrev pub are_parts : List (List ℕ) → Bool
are_parts parts = (not (length parts == 0) && nat_le (length parts) many) && list_all are_bytes parts

-- the element types of dense arrays
abbrev pub is_element : TypeTerm → Bool
is_element (Integer Signless w) = (((w == 1 || w == 8) || w == 16) || w == 32) || w == 64
is_element _ = false

-- the type after the text of an opaque attribute is writable
abbrev pub is_written_tail : Bool → Option TypeTerm → Bool
is_written_tail opaque None = true
is_written_tail opaque (Some ty) = is_written_type opaque ty

-- a writable attribute: an integer has bits of its type; names are bytes; an array has at most as many elements as a
-- text has bytes; a dictionary is within the limit of entries and sorted by distinct keys; the items of a dense array
-- are values of their type; and an opaque attribute has the text of one, with a type that may follow it, if opaque
-- attributes are allowed
abbrev mutual
  pub is_written : Bool → AttrTerm → Bool
  is_written opaque (IntegerOf ty bits) = is_written_type opaque ty && is_bits_of ty bits
  is_written opaque (String v) = are_bytes v
  is_written opaque (TypeOf ty) = is_written_type opaque ty
  is_written opaque Flag = true
  is_written opaque (Array items) = nat_le (length (attrs_list items)) many && are_written opaque items
  is_written opaque (Dictionary entries) =
      (nat_le (length (entries_list entries)) most_entries && rises key_before (entries_list entries)) && are_written_entries opaque entries
  is_written opaque (Symbol parts) = are_parts parts
  is_written opaque (DenseArray elem zs) = is_element elem && (nat_le (length zs) many && list_all (is_value_number elem) zs)
  is_written opaque (Overflow nsw nuw) = true
  is_written opaque (OpaqueOf text ty) = opaque && (is_attr_text text ty && is_written_tail opaque ty)

  pub are_written : Bool → AttrTerms → Bool
  are_written opaque no_attrs = true
  are_written opaque (next_attr a as') = is_written opaque a && are_written opaque as'

  pub are_written_entries : Bool → EntryTerms → Bool
  are_written_entries opaque no_entries = true
  are_written_entries opaque (next_entry key a es) = (are_bytes key && is_written opaque a) && are_written_entries opaque es

-- an attribute of at most this depth that is writable
abbrev pub FitsAttr : Bool → ℕ → AttrTerm → Type 0
FitsAttr opaque depth a = (attr_depth a ≤ depth) × (is_written opaque a ≡ true)

-- what may follow an attribute: a text that doesn't extend a name and doesn't begin with `::`, and with opaque
-- attributes, doesn't begin with a colon or `<` either
abbrev pub EndsAttr : Bool → List ℕ → Type 0
EndsAttr false rest = Stops is_suffix rest × Not IsMark DoubleColon rest
EndsAttr true rest = Stops is_suffix rest × Not IsMark DoubleColon rest × Not IsMark Colon rest × Not IsMark Less rest

-- a writable dictionary of an operation: sorted by distinct keys, which are bytes, with writable values
pub record IsWritableDictionary (opaque : Bool) (es : List (List ℕ × AttrTerm)) : Type 0 where
  pub sorted : rises key_before es ≡ true
  pub keys : AllByRecursion (λ e. are_bytes e.0 ≡ true) es
  pub values : AllByRecursion (λ e. FitsAttr opaque most_depth e.1) es

-- no attribute is a property of the operation, by its key or because the properties have the key
abbrev pub AreOthers : List ℕ → List (List ℕ × AttrTerm) → List (List ℕ × AttrTerm) → Type 0
AreOthers op properties es = AllByRecursion (λ e. (is_inherent op e.0 ≡ false) × (has_key bytes_eq e.0 properties ≡ false)) es
