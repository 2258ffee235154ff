-- The printed form of attributes.
use Rattle.std.specs.Prelude.{ℕ, ℤ, pos, Bool, true, false, ◌==◌, if◌then◌else◌, List, [], ◌∷◌, ◌++◌, map, codes, Option, None, Some}
use Rattle.std.specs.Ordering.{int_eq}
use Rattle.std.specs.Fmt.{signed_decimal}
use Rattle.ir_types.specs.declared.node.Sign.TheVariants.{Signless}
use Rattle.ir_types.specs.Terms.{TypeTerm, Integer, AttrTerm, IntegerOf, String, TypeOf, Flag, Array, Dictionary, Symbol, DenseArray, Overflow, OpaqueOf, AttrTerms, no_attrs, next_attr, EntryTerms, no_entries, next_entry}
use Rattle.ir_types.specs.Readings.{reading_of}
use Rattle.ir_text.specs.Rows.{parted}
use Rattle.ir_text_tokens.specs.Printing.{string_text, key_text}
use Rattle.ir_text.specs.TypeText.{type_text}

-- whether a type is `i1`
abbrev pub is_truth : TypeTerm → Bool
is_truth (Integer Signless width) = width == 1
is_truth _ = false

-- a truth value, by whether its number is 0
abbrev pub truth_text : Bool → List ℕ
truth_text is_zero = if is_zero then codes "false" else codes "true"

-- a number without its type; a word if the type is `i1`
unfoldable pub number_text : Bool → ℤ → List ℕ
number_text truth z = if truth then truth_text (int_eq z (pos 0)) else signed_decimal z

-- an integer: a decimal number with its type, or a word if the type is `i1`
abbrev pub integer_text : TypeTerm → ℤ → List ℕ
integer_text ty z = if is_truth ty then number_text true z else number_text false z ++ (codes " : " ++ type_text ty)

-- the items of a dense array, without types
abbrev pub items_text : Bool → List ℤ → List ℕ
items_text truth [] = []
items_text truth (z ∷ zs) = codes ": " ++ parted (codes ", ") true (map (number_text truth) (z ∷ zs))

-- a dense array
abbrev pub dense_text : TypeTerm → List ℤ → List ℕ
dense_text elem zs = codes "array<" ++ (type_text elem ++ (items_text (is_truth elem) zs ++ codes ">"))

-- a part of a symbol reference
abbrev pub part_text : List ℕ → List ℕ
part_text name = codes "@" ++ key_text name

-- the overflow flags of an integer operation: no signed wrap, no unsigned wrap
abbrev pub flags_text : Bool → Bool → List ℕ
flags_text false false = codes "none"
flags_text true false = codes "nsw"
flags_text false true = codes "nuw"
flags_text true true = codes "nsw, nuw"

-- an opaque attribute: its text, and its type if it has one
abbrev pub opaque_text : List ℕ → Option TypeTerm → List ℕ
opaque_text text None = text
opaque_text text (Some ty) = text ++ (codes " : " ++ type_text ty)

-- whether an attribute is `unit`
abbrev pub is_flag : AttrTerm → Bool
is_flag Flag = true
is_flag _ = false

-- an entry of a dictionary: its key, and its attribute unless that is `unit`
abbrev pub entry_text : List ℕ → Bool → List ℕ → List ℕ
entry_text key flag text = if flag then key_text key else key_text key ++ (codes " = " ++ text)

-- a list in curly braces, separated by `, `
abbrev pub in_curly : List (List ℕ) → List ℕ
in_curly ts = codes "{" ++ (parted (codes ", ") true ts ++ codes "}")

-- an attribute; an integer is printed as the number that its bits denote
abbrev mutual
  pub attr_text : AttrTerm → List ℕ
  attr_text (IntegerOf ty bits) = integer_text ty (reading_of ty bits)
  attr_text (String v) = string_text v
  attr_text (TypeOf ty) = type_text ty
  attr_text Flag = codes "unit"
  attr_text (Array items) = codes "[" ++ (parted (codes ", ") true (attr_texts items) ++ codes "]")
  attr_text (Dictionary entries) = in_curly (entry_texts entries)
  attr_text (Symbol parts) = parted (codes "::") true (map part_text parts)
  attr_text (DenseArray elem zs) = dense_text elem zs
  attr_text (Overflow nsw nuw) = codes "#arith.overflow<" ++ (flags_text nsw nuw ++ codes ">")
  attr_text (OpaqueOf text ty) = opaque_text text ty

  pub attr_texts : AttrTerms → List (List ℕ)
  attr_texts no_attrs = []
  attr_texts (next_attr a rest) = attr_text a ∷ attr_texts rest

  pub entry_texts : EntryTerms → List (List ℕ)
  entry_texts no_entries = []
  entry_texts (next_entry key a rest) = entry_text key (is_flag a) (attr_text a) ∷ entry_texts rest
