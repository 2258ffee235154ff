-- A printed attribute is parsed back.
use Rattle.std.proofs.Common.{◌≡◌, ℕ, zero, suc, ◌≤◌, Bool, true, false, List, [], ◌∷◌, ◌++◌, map, length, Option, Some, None, refl, sym, ap, subst, ◌∙◌, append_assoc, arith, inl, inr}
use Rattle.std.specs.Prelude.{◌&&◌, nat_le, codes}
use Rattle.std.specs.Str.{bytes_eq}
use Rattle.std.specs.List.{list_all}
use Rattle.std.proofs.lemmas.Bool.Decides.{nat_tests}
use Rattle.std.proofs.lemmas.Option.{some_pair_parts}
use Rattle.ir_types.specs.Terms.{TypeTerm, AttrTerm, IntegerOf, String, TypeOf, Flag, Array, Dictionary, Symbol, DenseArray, Overflow, OpaqueOf, AttrTerms, no_attrs, next_attr, EntryTerms, no_entries, next_entry}
use Rattle.ir_types.specs.Depths.{attr_depth, attrs_depth, entries_depth}
use Rattle.ir_types.specs.Ranges.{is_value_number}
use Rattle.ir_types.specs.Readings.{is_bits_of}
use Rattle.ir_types.specs.Reasons.{attr_fault}
use Rattle.ir_tree.specs.Meaning.{key_before, rises}
use Rattle.ir_text_tokens.specs.declared.token.Mark.{Mark}
use Rattle.ir_text_tokens.specs.declared.token.Mark.TheVariants.{OpenRound, OpenCurly, CloseCurly, OpenSquare, CloseSquare, Comma, Minus}
use Rattle.ir_text_tokens.specs.Tokens.{Lexeme, mark, integer, float, string, bare, hash, bang, symbol, quoted}
use Rattle.ir_text_tokens.specs.Printing.{AreBytes}
use Rattle.ir_text_tokens.proofs.Printed.{mark_token}
use Rattle.ir_text.specs.Rows.{parted}
use Rattle.ir_text.specs.AttrText.{attr_text, attr_texts, entry_texts}
use Rattle.ir_text_types.specs.TypeReading.{many}
use Rattle.ir_text_attributes.specs.Literals.{Word, Truth, UnitWord, ArrayWord, TypeWord, word_of}
use Rattle.ir_text_attributes.specs.declared.tail.Tail.{Tail}
use Rattle.ir_text_attributes.specs.OpaqueAttributes.{tail_in}
use Rattle.ir_text_attributes.specs.AttrGrammar.{IsBare, IsTypeAttr, IsPart, IsParts, IsSymbol, EntryTerm, attrs_of, entries_of, IsKey, IsUnitValue, IsEntry, IsDictionary, IsArray, IsWordAttr, IsMarkAttr, IsAttrFrom, IsAttr}
use Rattle.ir_text_attributes.specs.Keyed.{has_key, in_order}
use Rattle.ir_text_modules.specs.KeptAttributes.{is_attr_text}
use Rattle.ir_text_modules.specs.Written.{is_written_type}
use Rattle.ir_text_modules.specs.WrittenAttributes.{attrs_list, entries_list, are_bytes as are_bytes_test, is_element, is_written_tail, is_written, are_written, are_written_entries, FitsAttr, EndsAttr}
use Rattle.ir_text_modules.proofs.Small.{lacks_token, ends_word, are_bytes}
use Rattle.ir_text_modules.proofs.Ahead.{Ahead, Lacks, then_ahead}
use Rattle.ir_text_modules.proofs.Ends.{ends_suffix, ends_type}
use Rattle.ir_text_modules.proofs.KeptAttributes.{FitsTail, kept_read}
use Rattle.ir_text_modules.proofs.Rows.{AllFit, Items, list_again}
use Rattle.ir_text_modules.proofs.Types.{some_depth, type_ahead}
use Rattle.ir_text_modules.proofs.Leaves.{Begins, integer_read, string_read, unit_read, type_read, overflow_read}
use Rattle.ir_text_modules.proofs.Symbols.{symbol_read}
use Rattle.ir_text_modules.proofs.Dense.{dense_read}
use Rattle.ir_text_modules.proofs.Keys.{AreBeforeFirst, next_before, no_key, in_order_again, entries_again}
use Rattle.ir_text_modules.proofs.Entries.{key_ahead, key_lacks, comma_ends, square_ends, comma_entry, close_entry, EndsEntry, text_of_entry, texts_of_entries, entry_parts}
use Rattle.std.proofs.lemmas.Bool.{and_parts, leb-true}

-- ---- the first tokens of attributes

type_attr_ahead : (o : Bool) (depth : ℕ) → Ahead (IsTypeAttr o depth)
type_attr_ahead o depth = then_ahead _ _ (type_ahead o depth)

symbol_ahead : Ahead IsSymbol
unfolding IsParts
symbol_ahead y a b new e h = (h.0, h.1, parts_ahead many [] h.0 a b h.1 e h.2, h.3)
  where
    part_ahead : Ahead IsPart
    part_ahead y a b new e (inl h) = inl (sym e ∙ h)
    part_ahead y a b new e (inr h) = inr (h.0, sym e ∙ h.1, h.2)

    parts_ahead : (headroom : ℕ) (preceding : List (List ℕ)) → Ahead (IsParts headroom preceding)
    parts_ahead zero preceding y a b new e h = absurd h
    parts_ahead (suc headroom) preceding y a b new e h = (h.0, h.1, part_ahead h.0 a b h.1 e h.2, h.3)

word_attr_ahead : (o : Bool) (depth : ℕ) (w : Word) (rest : List ℕ) → Ahead (IsWordAttr o (suc depth) w rest)
word_attr_ahead o depth (Truth k) rest y a b new e h = h
word_attr_ahead o depth UnitWord rest y a b new e h = h
word_attr_ahead o depth ArrayWord rest y a b new e h = h
word_attr_ahead o depth TypeWord rest y a b new e h = type_attr_ahead o (suc depth) y a b new e h

bare_ahead : (o : Bool) (depth : ℕ) (t : Option Tail) (w rest : List ℕ) → Ahead (IsBare o (suc depth) t w rest)
bare_ahead o depth None w rest y a b new e h = word_attr_ahead o depth (word_of w) rest y a b new e h
bare_ahead o depth (Some tail) w rest y a b new e h = h

mark_attr_ahead : (o : Bool) (depth : ℕ) (m : Mark) (rest : List ℕ) → Ahead (IsMarkAttr o depth (IsAttr o depth) m rest)
mark_attr_ahead o depth Minus rest y a b new e h = h
mark_attr_ahead o depth OpenRound rest y a b new e h = type_attr_ahead o (suc depth) y a b new e h
mark_attr_ahead o depth OpenSquare rest y a b new e h = h
mark_attr_ahead o depth OpenCurly rest y a b new e h = h
mark_attr_ahead o depth _ rest y a b new e h = absurd h

from_ahead : (o : Bool) (depth : ℕ) (t : Lexeme) (rest : List ℕ) → Ahead (IsAttrFrom o depth (IsAttr o depth) t rest)
from_ahead o depth (bare w) rest y a b new e h = bare_ahead o depth (tail_in o w) w rest y a b new e h
from_ahead o depth (mark m) rest y a b new e h = mark_attr_ahead o depth m rest y a b new e h
from_ahead o depth (integer digits) rest y a b new e h = h
from_ahead o depth (string raw) rest y a b new e h = h
from_ahead o depth (symbol n) rest y a b new e h = symbol_ahead y a b new e h
from_ahead o depth (quoted raw) rest y a b new e h = symbol_ahead y a b new e h
from_ahead o depth (float digits) rest y a b new e h = h
from_ahead o depth (hash w) rest y a b new e h = h
from_ahead o depth (bang w) rest y a b new e h = type_attr_ahead o (suc depth) y a b new e h
from_ahead o depth _ rest y a b new e h = absurd h

pub attr_ahead : (o : Bool) (depth : ℕ) → Ahead (IsAttr o depth)
unfolding IsAttr
attr_ahead o zero y a b new e h = absurd h
attr_ahead o (suc depth) y a b new e h = (h.0, h.1, sym e ∙ h.2, from_ahead o depth h.0 h.1 y a b new e h.3)

attr_lacks : (o : Bool) (depth : ℕ) → Lacks CloseSquare (IsAttr o depth)
unfolding IsAttr
attr_lacks o zero y a new h = absurd h
attr_lacks o (suc depth) y a new h = λ n k.
    let e : h.0 ≡ mark CloseSquare = (some_pair_parts h.0 (mark CloseSquare) h.1 n (sym h.2 ∙ k)).0 in
    subst (λ t. IsAttrFrom o depth (IsAttr o depth) t h.1 y a new) e h.3

-- ---- the lists

attrs_again : (as' : AttrTerms) → attrs_of (attrs_list as') ≡ as'
attrs_again no_attrs = refl
attrs_again (next_attr a as') = ap (next_attr a) (attrs_again as')

texts_of_attrs : (as' : AttrTerms) → attr_texts as' ≡ map attr_text (attrs_list as')
texts_of_attrs no_attrs = refl
texts_of_attrs (next_attr a as') = ap (λ (l : List (List ℕ)). attr_text a ∷ l) (texts_of_attrs as')

abbrev pub IsReadAgain : Bool → ℕ → Type 0
IsReadAgain o depth = (a : AttrTerm) (rest : List ℕ) → FitsAttr o depth a → EndsAttr o rest → IsAttr o depth a (attr_text a ++ rest) rest

attrs_fit : (o : Bool) (depth : ℕ) (preceding : List AttrTerm) (as' : AttrTerms) → attrs_depth as' ≤ depth → are_written o as' ≡ true → AllFit (λ before. FitsAttr o depth) preceding (attrs_list as')
attrs_fit o depth preceding no_attrs le e = tt
attrs_fit o depth preceding (next_attr a as') le e = let p = and_parts (is_written o a) (are_written o as') e in ((omega arith, p.0), attrs_fit o depth (preceding ++ a ∷ []) as' (omega arith) p.1)

array_fine : (as' : AttrTerms) → attr_depth (Array as') ≤ 32 → attr_fault (Array as') ≡ None
array_fine as' le = let e : nat_le (attr_depth (Array as')) 32 ≡ true = grind (arith, nat_tests) in rw e refl

dictionary_fine : (es : EntryTerms) → attr_depth (Dictionary es) ≤ 32 → attr_fault (Dictionary es) ≡ None
dictionary_fine es le = let e : nat_le (attr_depth (Dictionary es)) 32 ≡ true = grind (arith, nat_tests) in rw e refl

-- an entry fits if its key isn't in `before`
abbrev pub FitsEntry : Bool → ℕ → List EntryTerm → EntryTerm → Type 0
FitsEntry o depth before e = (has_key bytes_eq e.0 before ≡ false) × AreBytes e.0 × FitsAttr o depth e.1

some_attr_depth : (o : Bool) (a : AttrTerm) → is_written o a ≡ true → 1 ≤ attr_depth a
some_attr_depth o (IntegerOf ty bits) e = omega arith
some_attr_depth o (String v) e = omega arith
some_attr_depth o (TypeOf ty) e = some_depth o ty e
some_attr_depth o Flag e = omega arith
some_attr_depth o (Array items) e = omega arith
some_attr_depth o (Dictionary es) e = omega arith
some_attr_depth o (Symbol parts) e = omega arith
some_attr_depth o (DenseArray elem zs) e = omega arith
some_attr_depth o (Overflow nsw nuw) e = omega arith
some_attr_depth o (OpaqueOf text None) e = omega arith
some_attr_depth o (OpaqueOf text (Some ty)) e = some_depth o ty (and_parts (is_attr_text text (Some ty)) (is_written_type o ty) (and_parts o (is_attr_text text (Some ty) && is_written_type o ty) e).1).1

entries_fit : (o : Bool) (depth : ℕ) (preceding : List EntryTerm) (es : EntryTerms) → AreBeforeFirst preceding (entries_list es) → rises key_before (entries_list es) ≡ true → entries_depth es ≤ depth → are_written_entries o es ≡ true → AllFit (FitsEntry o depth) preceding (entries_list es)
entries_fit o depth preceding no_entries b r le e = tt
entries_fit o depth preceding (next_entry key a es) b r le e =
    let p = and_parts (are_bytes_test key && is_written o a) (are_written_entries o es) e in
    let q = and_parts (are_bytes_test key) (is_written o a) p.0 in
    let n = next_before preceding (key, a) (entries_list es) b r in
    ((no_key preceding key b, are_bytes key q.0, (omega arith, q.1)), entries_fit o depth (preceding ++ (key, a) ∷ []) es n.0 n.1 (omega arith) p.1)

unit_again : (depth : ℕ) (rest : List ℕ) → 1 ≤ depth → IsUnitValue depth Flag rest rest
unit_again zero rest le = absurd (omega (arith, le))
unit_again (suc depth) rest le = (refl, refl, refl)

module _ (o : Bool) (depth : ℕ) (item : IsReadAgain o depth) where
  attr_items : Items CloseSquare (λ before. IsAttr o depth) attr_text (λ before. FitsAttr o depth) (EndsAttr o)
  attr_items = record {
    reads = λ preceding a rest fits_in s. item a rest fits_in s;
    ahead = λ preceding. attr_ahead o depth;
    lacks = λ preceding. attr_lacks o depth;
    comma = comma_ends o;
    closing = square_ends o;
    closes = λ rest. mark_token CloseSquare rest tt;
    open_yet = λ rest. lacks_token (mark Comma) CloseSquare (44 ∷ rest) rest (mark_token Comma rest tt) (λ e. absurd cc);
  }

  array_read : (as' : AttrTerms) (rest : List ℕ) → attr_depth (Array as') ≤ suc depth → suc depth ≤ 32 → is_written o (Array as') ≡ true → Begins o depth (Array as') (attr_text (Array as') ++ rest) rest
  unfolding IsArray
  array_read as' rest le small e =
      let p = and_parts (nat_le (length (attrs_list as')) many) (are_written o as') e in
      let row = parted (codes ", ") true (attr_texts as') in
      let inside = list_again CloseSquare (λ before. IsAttr o depth) attr_text (λ before. FitsAttr o depth) (EndsAttr o) attr_items many (attrs_list as') rest (attrs_fit o depth [] as' (omega arith) p.1) (leb-true (length (attrs_list as')) many p.0) in
      let apart : attr_text (Array as') ++ rest ≡ 91 ∷ (row ++ 93 ∷ rest) = ap (λ (l : List ℕ). 91 ∷ l) (append_assoc row (93 ∷ []) rest) in
      rw apart (mark OpenSquare, row ++ 93 ∷ rest, mark_token OpenSquare (row ++ 93 ∷ rest) tt, (attrs_list as', rest, rw (texts_of_attrs as') inside, (rw (attrs_again as') (array_fine as' (omega arith)), rw (attrs_again as') refl, refl)))

  entry_read : (preceding : List EntryTerm) (e : EntryTerm) (rest : List ℕ) → FitsEntry o depth preceding e → EndsEntry o rest → IsEntry depth (IsAttr o depth) preceding e (text_of_entry e ++ rest) rest
  entry_read preceding e rest fits_in s =
      let k = entry_parts o (IsAttr o depth) (IsUnitValue depth) (attr_ahead o depth) e.0 e.1 rest fits_in.1 s (item e.1 rest fits_in.2 s.2) (λ f. unit_again depth rest (omega (arith, some_attr_depth o e.1 fits_in.2.1, fits_in.2.0))) in
      (e.0, k.0, k.1, (fits_in.0, (e.1, rest, k.2, (refl, refl))))

  entry_items : Items CloseCurly (IsEntry depth (IsAttr o depth)) text_of_entry (FitsEntry o depth) (EndsEntry o)
  entry_items = record {
    reads = entry_read;
    ahead = λ preceding. then_ahead IsKey _ key_ahead;
    lacks = λ preceding y a new h. key_lacks CloseCurly h.0 a h.1 h.2;
    comma = comma_entry o;
    closing = close_entry o;
    closes = λ rest. mark_token CloseCurly rest tt;
    open_yet = λ rest. lacks_token (mark Comma) CloseCurly (44 ∷ rest) rest (mark_token Comma rest tt) (λ e. absurd cc);
  }

  dictionary_read : (es : EntryTerms) (rest : List ℕ) → attr_depth (Dictionary es) ≤ suc depth → suc depth ≤ 32 → is_written o (Dictionary es) ≡ true → Begins o depth (Dictionary es) (attr_text (Dictionary es) ++ rest) rest
  unfolding IsDictionary
  dictionary_read es rest le small e =
      let p = and_parts (nat_le (length (entries_list es)) 256 && rises key_before (entries_list es)) (are_written_entries o es) e in
      let q = and_parts (nat_le (length (entries_list es)) 256) (rises key_before (entries_list es)) p.0 in
      let row = parted (codes ", ") true (entry_texts es) in
      let inside = list_again CloseCurly (IsEntry depth (IsAttr o depth)) text_of_entry (FitsEntry o depth) (EndsEntry o) entry_items 256 (entries_list es) rest (entries_fit o depth [] es (none_before es) q.1 (omega arith) p.1) (leb-true (length (entries_list es)) 256 q.0) in
      let apart : attr_text (Dictionary es) ++ rest ≡ 123 ∷ (row ++ 125 ∷ rest) = ap (λ (l : List ℕ). 123 ∷ l) (append_assoc row (125 ∷ []) rest) in
      let same : entries_of (in_order key_before (entries_list es)) ≡ es = ap entries_of (in_order_again (entries_list es) q.1) ∙ entries_again es in
      rw apart (mark OpenCurly, row ++ 125 ∷ rest, mark_token OpenCurly (row ++ 125 ∷ rest) tt, (entries_list es, rest, rw (texts_of_entries es) inside, (rw same (dictionary_fine es (omega arith)), rw same refl, refl)))
    where
      none_before : (es : EntryTerms) → AreBeforeFirst [] (entries_list es)
      none_before no_entries = tt
      none_before (next_entry key a es) = tt

-- ---- attributes

fits_tail : (depth : ℕ) (text : List ℕ) (ty : Option TypeTerm) → attr_depth (OpaqueOf text ty) ≤ depth → is_written_tail true ty ≡ true → FitsTail depth ty
fits_tail depth text None le e = tt
fits_tail depth text (Some ty) le e = (le, e)

opaque_read : (o : Bool) (depth : ℕ) (text : List ℕ) (ty : Option TypeTerm) (rest : List ℕ) → suc depth ≤ 32 → attr_depth (OpaqueOf text ty) ≤ suc depth → is_written o (OpaqueOf text ty) ≡ true → EndsAttr o rest → Begins o depth (OpaqueOf text ty) (attr_text (OpaqueOf text ty) ++ rest) rest
opaque_read false depth text ty rest small le e s = absurd cc
opaque_read true depth text ty rest small le e s =
    let p = and_parts (is_attr_text text ty) (is_written_tail true ty) e in
    kept_read depth text ty rest small p.0 (fits_tail (suc depth) text ty le p.1) s

pub attr_again : (o : Bool) (depth : ℕ) → depth ≤ 32 → IsReadAgain o depth
unfolding IsAttr
attr_again o zero small a rest fits_in s = absurd (omega (arith, some_attr_depth o a fits_in.1, fits_in.0))
attr_again o (suc depth) small (IntegerOf ty bits) rest fits_in s = let p = and_parts (is_written_type o ty) (is_bits_of ty bits) fits_in.1 in integer_read o depth ty bits rest p.0 p.1 (ends_type o rest s)
attr_again o (suc depth) small (String v) rest fits_in s = string_read o depth v rest (are_bytes v fits_in.1) s
attr_again o (suc depth) small (TypeOf ty) rest fits_in s = type_read o depth ty rest small fits_in.0 fits_in.1 (ends_type o rest s)
attr_again o (suc depth) small Flag rest fits_in s = unit_read o depth rest (ends_word rest (ends_suffix o rest s))
attr_again o (suc depth) small (Array items) rest fits_in s = array_read o depth (attr_again o depth (omega arith)) items rest fits_in.0 small fits_in.1
attr_again o (suc depth) small (Dictionary es) rest fits_in s = dictionary_read o depth (attr_again o depth (omega arith)) es rest fits_in.0 small fits_in.1
attr_again o (suc depth) small (Symbol parts) rest fits_in s = symbol_read o depth parts rest fits_in.1 s
attr_again o (suc depth) small (DenseArray elem zs) rest fits_in s =
    let p = and_parts (is_element elem) (nat_le (length zs) many && list_all (is_value_number elem) zs) fits_in.1 in
    let q = and_parts (nat_le (length zs) many) (list_all (is_value_number elem) zs) p.1 in
    dense_read o depth elem zs rest p.0 q.0 q.1
attr_again o (suc depth) small (Overflow nsw nuw) rest fits_in s = overflow_read o depth nsw nuw rest
attr_again o (suc depth) small (OpaqueOf text ty) rest fits_in s = opaque_read o depth text ty rest small fits_in.0 fits_in.1 s
