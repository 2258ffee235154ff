-- Writable types and attributes that aren't opaque are printed as ASCII.
use Rattle.std.proofs.Common.{◌≡◌, ℕ, Bool, true, false, ◌&&◌, List, [], ◌∷◌, ◌++◌, length, map, Option, Some, None, ℤ, pos, refl}
use Rattle.std.specs.Prelude.{nat_le, codes, flat_map}
use Rattle.std.specs.List.{list_all, AllByRecursion}
use Rattle.std.specs.Fmt.{decimal}
use Rattle.std.specs.Ordering.{int_eq}
use Rattle.std.specs.Str.{IsAscii}
use Rattle.std.proofs.lemmas.Bool.{and_parts}
use Rattle.std.proofs.lemmas.Str.{IsAscii-append}
use Rattle.std.proofs.lemmas.Str.Ascii.{IsAscii-nil}
use Rattle.ir_types.specs.declared.node.Sign.{Sign}
use Rattle.ir_types.specs.declared.node.Sign.TheVariants.{Signless, Signed, Unsigned}
use Rattle.ir_types.specs.Depths.{is_scalar}
use Rattle.ir_types.specs.Ranges.{is_value_number}
use Rattle.ir_types.specs.Readings.{reading_of, is_bits_of}
use Rattle.ir_types.specs.SameTypes.{type_list}
use Rattle.ir_types.specs.Reasons.{is_dimension}
use Rattle.ir_types.specs.Terms.{TypeTerm, Integer, Index, Function, Memref, OpaqueType, TypeTerms, no_types, next_type, AttrTerm, IntegerOf, String, TypeOf, Flag, Array, Dictionary, Symbol, DenseArray, Overflow, OpaqueOf, AttrTerms, no_attrs, next_attr, EntryTerms, no_entries, next_entry}
use Rattle.ir_text_tokens.specs.Printing.{key_text}
use Rattle.ir_text.specs.AttrText.{is_truth, truth_text, number_text, integer_text, items_text, dense_text, part_text, flags_text, is_flag, attr_text, attr_texts, entry_texts}
use Rattle.ir_text_types.specs.TypeReading.{many}
use Rattle.ir_text.specs.Rows.{parted}
use Rattle.ir_text.specs.TypeText.{sign_text, dimension_text, is_lone, type_text, type_texts}
use Rattle.ir_text_modules.specs.Written.{is_written_type, are_written_types}
use Rattle.ir_text_modules.specs.WrittenAttributes.{are_bytes, is_element, is_written, are_written, are_written_entries}
use Rattle.ir_text_modules.proofs.Ascii.{word, either, number, signed, quoted, key}
use Rattle.ir_text_modules.proofs.AsciiRows.{row, curly, arrow, entry}

same : (xs : List ℕ) → IsAscii xs → IsAscii xs
same xs h = h

-- ---- types

sign : (s : Sign) → IsAscii (sign_text s)
sign Signless = word (codes "i") refl
sign Signed = word (codes "si") refl
sign Unsigned = word (codes "ui") refl

dimension : (d : Option ℕ) → IsAscii (dimension_text d)
dimension None = word (codes "?x") refl
dimension (Some n) = IsAscii-append (decimal n) (codes "x") (number n) (word (codes "x") refl)

dimensions : (ds : List (Option ℕ)) → IsAscii (flat_map dimension_text ds)
dimensions [] = IsAscii-nil
dimensions (d ∷ ds) = IsAscii-append (dimension_text d) (flat_map dimension_text ds) (dimension d) (dimensions ds)

mutual
  pub type : (t : TypeTerm) → is_written_type false t ≡ true → IsAscii (type_text t)
  type (Integer s width) e = IsAscii-append (sign_text s) (decimal width) (sign s) (number width)
  type Index e = word (codes "index") refl
  type (Function xs ys) e =
      let p = and_parts (are_written_types false xs) (are_written_types false ys) (and_parts (nat_le (length (type_list xs)) many && nat_le (length (type_list ys)) many) (are_written_types false xs && are_written_types false ys) e).1 in
      arrow IsAscii same IsAscii-append (type_texts xs) (is_lone ys) (type_texts ys) (types xs p.0) (types ys p.1)
  type (Memref dims elem) e =
      let p = and_parts (is_scalar elem) (is_written_type false elem) (and_parts (nat_le (length dims) many && list_all is_dimension dims) (is_scalar elem && is_written_type false elem) e).1 in
      IsAscii-append (codes "memref<") (flat_map dimension_text dims ++ (type_text elem ++ codes ">")) (word (codes "memref<") refl) (IsAscii-append (flat_map dimension_text dims) (type_text elem ++ codes ">") (dimensions dims) (IsAscii-append (type_text elem) (codes ">") (type elem p.1) (word (codes ">") refl)))
  type (OpaqueType text) e = absurd cc

  types : (ts : TypeTerms) → are_written_types false ts ≡ true → AllByRecursion IsAscii (type_texts ts)
  types no_types e = tt
  types (next_type t ts) e = let p = and_parts (is_written_type false t) (are_written_types false ts) e in (type t p.0, types ts p.1)

-- the element types of dense arrays
element : (elem : TypeTerm) → is_element elem ≡ true → IsAscii (type_text elem)
element (Integer s width) e = IsAscii-append (sign_text s) (decimal width) (sign s) (number width)
element Index e = absurd cc
element (Function xs ys) e = absurd cc
element (Memref dims elem) e = absurd cc
element (OpaqueType text) e = absurd cc

-- ---- attributes

truth_word : (b : Bool) → IsAscii (truth_text b)
truth_word true = word (codes "false") refl
truth_word false = word (codes "true") refl

simple : (truth : Bool) (z : ℤ) → IsAscii (number_text truth z)
unfolding number_text
simple true z = truth_word (int_eq z (pos 0))
simple false z = signed z

integer : (ty : TypeTerm) (z : ℤ) → is_written_type false ty ≡ true → IsAscii (integer_text ty z)
integer ty z e = either (is_truth ty) (number_text true z) (number_text false z ++ (codes " : " ++ type_text ty)) (simple true z)
    (IsAscii-append (number_text false z) (codes " : " ++ type_text ty) (simple false z) (IsAscii-append (codes " : ") (type_text ty) (word (codes " : ") refl) (type ty e)))

numbers : (truth : Bool) (zs : List ℤ) → AllByRecursion IsAscii (map (number_text truth) zs)
numbers truth [] = tt
numbers truth (z ∷ zs) = (simple truth z, numbers truth zs)

items : (truth : Bool) (zs : List ℤ) → IsAscii (items_text truth zs)
items truth [] = IsAscii-nil
items truth (z ∷ zs) = IsAscii-append (codes ": ") (parted (codes ", ") true (map (number_text truth) (z ∷ zs))) (word (codes ": ") refl) (row IsAscii same IsAscii-append (codes ", ") true (map (number_text truth) (z ∷ zs)) (word (codes ", ") refl) (numbers truth (z ∷ zs)))

dense : (elem : TypeTerm) (zs : List ℤ) → is_element elem ≡ true → IsAscii (dense_text elem zs)
dense elem zs e =
    IsAscii-append (codes "array<") (type_text elem ++ (items_text (is_truth elem) zs ++ codes ">")) (word (codes "array<") refl)
    (IsAscii-append (type_text elem) (items_text (is_truth elem) zs ++ codes ">") (element elem e)
    (IsAscii-append (items_text (is_truth elem) zs) (codes ">") (items (is_truth elem) zs) (word (codes ">") refl)))

parts : (ns : List (List ℕ)) → list_all are_bytes ns ≡ true → AllByRecursion IsAscii (map part_text ns)
parts [] e = tt
parts (n ∷ ns) e = let p = and_parts (are_bytes n) (list_all are_bytes ns) e in (IsAscii-append (codes "@") (key_text n) (word (codes "@") refl) (key n p.0), parts ns p.1)

flags : (nsw nuw : Bool) → IsAscii (flags_text nsw nuw)
flags false false = word (codes "none") refl
flags true false = word (codes "nsw") refl
flags false true = word (codes "nuw") refl
flags true true = word (codes "nsw, nuw") refl

mutual
  pub attribute : (a : AttrTerm) → is_written false a ≡ true → IsAscii (attr_text a)
  attribute (IntegerOf ty bits) e = integer ty (reading_of ty bits) (and_parts (is_written_type false ty) (is_bits_of ty bits) e).0
  attribute (String v) e = quoted v e
  attribute (TypeOf ty) e = type ty e
  attribute Flag e = word (codes "unit") refl
  attribute (Array xs) e =
      IsAscii-append (codes "[") (parted (codes ", ") true (attr_texts xs) ++ codes "]") (word (codes "[") refl)
      (IsAscii-append (parted (codes ", ") true (attr_texts xs)) (codes "]") (row IsAscii same IsAscii-append (codes ", ") true (attr_texts xs) (word (codes ", ") refl) (attributes xs (and_parts _ (are_written false xs) e).1)) (word (codes "]") refl))
  attribute (Dictionary es) e = curly IsAscii same IsAscii-append (entry_texts es) (entries es (and_parts _ (are_written_entries false es) e).1)
  attribute (Symbol ns) e = row IsAscii same IsAscii-append (codes "::") true (map part_text ns) (word (codes "::") refl) (parts ns (and_parts _ (list_all are_bytes ns) e).1)
  attribute (DenseArray elem zs) e = dense elem zs (and_parts (is_element elem) (nat_le (length zs) many && list_all (is_value_number elem) zs) e).0
  attribute (Overflow nsw nuw) e = IsAscii-append (codes "#arith.overflow<") (flags_text nsw nuw ++ codes ">") (word (codes "#arith.overflow<") refl) (IsAscii-append (flags_text nsw nuw) (codes ">") (flags nsw nuw) (word (codes ">") refl))
  attribute (OpaqueOf text ty) e = absurd cc

  attributes : (as' : AttrTerms) → are_written false as' ≡ true → AllByRecursion IsAscii (attr_texts as')
  attributes no_attrs e = tt
  attributes (next_attr a as') e = let p = and_parts (is_written false a) (are_written false as') e in (attribute a p.0, attributes as' p.1)

  entries : (es : EntryTerms) → are_written_entries false es ≡ true → AllByRecursion IsAscii (entry_texts es)
  entries no_entries e = tt
  entries (next_entry k a es) e =
      let p = and_parts (are_bytes k && is_written false a) (are_written_entries false es) e in
      let q = and_parts (are_bytes k) (is_written false a) p.0 in
      (entry IsAscii same IsAscii-append k (is_flag a) (attr_text a) q.0 (attribute a q.1), entries es p.1)
