-- A text has at most one attribute as a prefix.
use Rattle.std.specs.Prelude.{ℤ, ◌&&◌, Option}
use Rattle.std.specs.Str.{bytes_eq}
use Rattle.std.proofs.Common.{◌≡◌, ℕ, zero, suc, Bool, true, false, true≢false, List, [], ◌∷◌, ◌++◌, Some, None, refl, sym, ap, subst, ◌∙◌, ◌⊎◌, inl, inr}
use Rattle.ir_text_tokens.specs.declared.token.Mark.{Mark}
use Rattle.ir_text_tokens.specs.declared.token.Mark.TheVariants.{OpenRound, OpenCurly, CloseCurly, OpenSquare, CloseSquare, Less, Greater, Equal, Colon, DoubleColon, Minus}
use Rattle.ir_text_tokens.specs.Strings.{string_bytes}
use Rattle.ir_text_tokens.specs.Tokens.{Lexeme, mark, integer, float, string, bare, hash, bang, symbol, quoted, skip}
use Rattle.ir_types.specs.declared.node.Sign.TheVariants.{Signless}
use Rattle.ir_types.specs.Terms.{TypeTerm, Integer, AttrTerm, IntegerOf, String, TypeOf, Flag, Array, Dictionary, Symbol, DenseArray, Overflow, OpaqueOf}
use Rattle.ir_types.specs.Reasons.{attr_fault}
use Rattle.ir_text_attributes.specs.declared.flag.Flag as code
use Rattle.ir_text_attributes.specs.Literals.{Word, Truth, UnitWord, ArrayWord, TypeWord, array_word, word_of, truth_bits, overflow_word, none_word, flag_of, has_nsw, has_nuw}
use Rattle.ir_types.specs.Readings.{literal_bits, reading_of}
use Rattle.ir_text_attributes.specs.Elements.{element_of}
use Rattle.ir_text_attributes.specs.AttrGrammar.{EntryTerm, IsPart, IsParts, IsSymbol, IsElement, IsItemNumber, IsItem, IsItems, IsDense, IsKey, IsUnitValue, IsValue, IsEntry, IsDictionary, IsArray, attrs_of, entries_of, IsFine, IsTypeAttr, IsSuffix, IsIntegerOf, IsLiteralOf, IsLiteral, IsTyped, IsOpaqueTyped, IsTail, IsKept, IsString, IsNegativeFrom, IsNegative, IsFlag, IsFlags, IsOverflow, IsArrayWord, IsWordAttr, IsBare, IsMarkAttr, IsHash, IsAttrFrom, IsAttr}
use Rattle.ir_text_attributes.specs.Keyed.{has_key, in_order}
use Rattle.ir_tree.specs.Meaning.{key_before}
use Rattle.ir_text_types.specs.TypeReading.{many}
use Rattle.ir_text_types.specs.Grammars.{When, Grammar, Then, Done, After, Either, Not, IsMore, IsList, Token, IsMark}
use Rattle.ir_text_types.specs.Typed.{Text}
use Rattle.ir_text_types.specs.OpaqueTypes.{bracketed, dialect_text}
use Rattle.ir_text_types.specs.TypeGrammar.{IsType}
use Rattle.ir_text_attributes.specs.declared.tail.Tail.{Tail}
use Rattle.ir_text_attributes.specs.declared.tail.Tail.TheVariants.{SomeType, TypeOrNone, OpaqueOrNone, NoType}
use Rattle.ir_text_attributes.specs.OpaqueAttributes.{tail_in, kept_text, quoted_text, signed_text, is_hexadecimal, is_opaque_type, opens_other}
use Rattle.ir_text_types.proofs.Unique.{IsOne, then_one, done_one, done_if_one, after_one, either_one, more_one, list_one, token_one, mark_one, type_one}

trailing_one : {B : Type 0} (rest : Text) (P : Grammar Text B) → IsOne P → IsOne {T = Text} (λ y old new. P y rest new)
trailing_one rest P one t y y' n n' k l = one rest y y' n n' k l

first_one : {B : Type 0} (F : Lexeme → Text → Grammar Text B) → ((l : Lexeme) (rest : Text) → IsOne (F l rest)) → IsOne {T = Text} (λ y old new. (l : Lexeme) × (rest : Text) × Token l old rest × F l rest y old new)
first_one F each t y y' n n' k l =
    let e = token_one k.0 l.0 t k.1 l.1 k.2 l.2 in
    each k.0 k.1 t y y' n n' k.3 (subst (λ r. F k.0 r y' t n') (sym e.1) (subst (λ a. F a l.1 y' t n') (sym e.0) l.3))

none_one : {B : Type 0} → IsOne {T = Text} {B = B} (λ y old new. ⊥)
none_one t y y' n n' k l = absurd k

fine_one : (z : AttrTerm) → IsOne (IsFine z)
fine_one z = done_if_one (attr_fault z ≡ None) z

type_attr_one : (o : Bool) (depth : ℕ) → IsOne (IsTypeAttr o depth)
type_attr_one o depth = then_one (IsType o depth) (λ t. IsFine (TypeOf t)) (type_one o depth) (λ t. fine_one (TypeOf t))

suffix_one : (o : Bool) → IsOne (IsSuffix o)
suffix_one o = either_one IsMark mark_one Colon (IsType o 32) (Done (Integer Signless 64)) (type_one o 32) (done_one (Integer Signless 64))

integer_of_one : (negative : Bool) (n : ℕ) (ty : TypeTerm) → IsOne (IsIntegerOf negative n ty)
integer_of_one negative n ty t y y' m m' k l =
    let some : Some k.0 ≡ Some l.0 = sym k.1 ∙ l.1 in
    let same : k.0 ≡ l.0 = cc (some) in
    fine_one (IntegerOf ty k.0) t y y' m m' k.2 (subst (λ bits. IsFine (IntegerOf ty bits) y' t m') (sym same) l.2)

-- one of two grammars, chosen by a test
choice_one : {B : Type 0} (b : Bool) (P Q : Grammar Text B) → IsOne P → IsOne Q → IsOne {T = Text} (λ y old new. ((b ≡ true) × P y old new) ⊎ ((b ≡ false) × Q y old new))
choice_one b P Q first second t y y' n n' (inl k) (inl l) = first t y y' n n' k.1 l.1
choice_one b P Q first second t y y' n n' (inl k) (inr l) = absurd (true≢false (sym k.0 ∙ l.0))
choice_one b P Q first second t y y' n n' (inr k) (inl l) = absurd (true≢false (sym l.0 ∙ k.0))
choice_one b P Q first second t y y' n n' (inr k) (inr l) = second t y y' n n' k.1 l.1

guard_one : {B : Type 0} (F : Type 0) (P : Grammar Text B) → IsOne P → IsOne {T = Text} (λ y old new. F × P y old new)
guard_one F P one t y y' n n' k l = one t y y' n n' k.1 l.1

literal_of_one : (negative : Bool) (digits : List ℕ) (n : ℕ) (ty : TypeTerm) → IsOne (IsLiteralOf negative digits n ty)
literal_of_one negative digits n ty =
    choice_one (is_opaque_type ty && is_hexadecimal digits) (IsFine (OpaqueOf (signed_text negative digits) (Some ty))) (IsIntegerOf negative n ty) (fine_one (OpaqueOf (signed_text negative digits) (Some ty))) (integer_of_one negative n ty)

literal_one : (o negative : Bool) (digits : List ℕ) → IsOne (IsLiteral o negative digits)
literal_one o negative digits t y y' n n' k l =
    let some : Some k.0 ≡ Some l.0 = sym k.1 ∙ l.1 in
    let same : k.0 ≡ l.0 = cc (some) in
    then_one (IsSuffix o) (IsLiteralOf negative digits k.0) (suffix_one o) (literal_of_one negative digits k.0) t y y' n n' k.2
    (subst (λ m. Then (IsSuffix o) (IsLiteralOf negative digits m) y' t n') (sym same) l.2)

-- ---- opaque attributes

module _ (o : Bool) (types : ℕ) where
  typed_one : (text : List ℕ) → IsOne (IsTyped o types text)
  typed_one text = then_one (IsType o types) (λ t. IsFine (OpaqueOf text (Some t))) (type_one o types) (λ t. fine_one (OpaqueOf text (Some t)))

  opaque_typed_one : (text : List ℕ) → IsOne (IsOpaqueTyped o types text)
  opaque_typed_one text =
      then_one (IsType o types) (λ t. When (is_opaque_type t ≡ true) (IsFine (OpaqueOf text (Some t)))) (type_one o types) (λ t. guard_one (is_opaque_type t ≡ true) (IsFine (OpaqueOf text (Some t))) (fine_one (OpaqueOf text (Some t))))

  tail_one : (tail : Tail) (text : List ℕ) → IsOne (IsTail o types tail text)
  tail_one SomeType text = after_one IsMark mark_one Colon (IsTyped o types text) (typed_one text)
  tail_one TypeOrNone text = either_one IsMark mark_one Colon (IsTyped o types text) (IsFine (OpaqueOf text None)) (typed_one text) (fine_one (OpaqueOf text None))
  tail_one OpaqueOrNone text = either_one IsMark mark_one Colon (IsOpaqueTyped o types text) (IsFine (OpaqueOf text None)) (opaque_typed_one text) (fine_one (OpaqueOf text None))
  tail_one NoType text = fine_one (OpaqueOf text None)

  kept_one : (tail : Tail) (found : Option (List ℕ × List ℕ)) (y y' : AttrTerm) (n n' : Text) → IsKept o types tail found y n → IsKept o types tail found y' n' → (y ≡ y') × (n ≡ n')
  kept_one tail found y y' n n' k l =
      let some : Some k.0 ≡ Some l.0 = sym k.1 ∙ l.1 in
      let same : k.0 ≡ l.0 = cc (some) in
      tail_one tail k.0.0 k.0.1 y y' n n' k.2 (subst (λ (x : List ℕ × List ℕ). IsTail o types tail x.0 y' x.1 n') (sym same) l.2)

  string_one : (raw : List ℕ) → IsOne (IsString o types raw)
  string_one raw =
      choice_one o (Either IsMark Colon (IsTyped o types (quoted_text raw)) (IsFine (String (string_bytes raw)))) (IsFine (String (string_bytes raw)))
      (either_one IsMark mark_one Colon (IsTyped o types (quoted_text raw)) (IsFine (String (string_bytes raw))) (typed_one (quoted_text raw)) (fine_one (String (string_bytes raw)))) (fine_one (String (string_bytes raw)))

  negative_from_one : (l : Lexeme) → IsOne (IsNegativeFrom o types l)
  negative_from_one (integer digits) = literal_one o true digits
  negative_from_one (float digits) = guard_one (o ≡ true) (IsTail o types OpaqueOrNone (45 ∷ digits)) (tail_one OpaqueOrNone (45 ∷ digits))
  negative_from_one _ = none_one

  negative_one : IsOne (IsNegative o types)
  negative_one = first_one (λ l rest y old new. IsNegativeFrom o types l y rest new) (λ l rest. trailing_one rest (IsNegativeFrom o types l) (negative_from_one l))

flag_one : IsOne IsFlag
flag_one t y y' n n' k l =
    let e = token_one (bare k.0) (bare l.0) t n n' k.1 l.1 in
    let word : k.0 ≡ l.0 = cc (e.0) in
    let some : Some y ≡ Some y' = sym k.2 ∙ ap flag_of word ∙ l.2 in
    (cc (some), e.1)

-- the flags after their first word
abbrev FlagsRest : Text → List ℕ → Text → List code.Flag → Text → Type 0
FlagsRest t w rest fs new = ((bytes_eq w none_word ≡ true) × IsMark Greater rest new × (fs ≡ [])) ⊎ ((bytes_eq w none_word ≡ false) × IsMore IsMark Greater (λ before. IsFlag) many [] fs t new)

flags_rest_one : (t : Text) (y y' : List code.Flag) (n n' : Text) (v w : List ℕ) → v ≡ w → (r s : Text) → r ≡ s → FlagsRest t v r y n → FlagsRest t w s y' n' → (y ≡ y') × (n ≡ n')
flags_rest_one t y y' n n' v w e r s f (inl i) (inl j) = (i.2 ∙ sym j.2, mark_one Greater r n n' i.1 (subst (λ b. IsMark Greater b n') (sym f) j.1))
flags_rest_one t y y' n n' v w e r s f (inl i) (inr j) = absurd (true≢false (sym i.0 ∙ ap (λ b. bytes_eq b none_word) e ∙ j.0))
flags_rest_one t y y' n n' v w e r s f (inr i) (inl j) = absurd (true≢false (sym j.0 ∙ ap (λ b. bytes_eq b none_word) (sym e) ∙ i.0))
flags_rest_one t y y' n n' v w e r s f (inr i) (inr j) = more_one IsMark mark_one Greater (λ before. IsFlag) (λ before. flag_one) many [] t y y' n n' i.1 j.1

flags_one : IsOne IsFlags
flags_one t y y' n n' k l =
    let e = token_one (bare k.0) (bare l.0) t k.1 l.1 k.2 l.2 in
    let word : k.0 ≡ l.0 = cc (e.0) in
    flags_rest_one t y y' n n' k.0 l.0 word k.1 l.1 e.1 k.3 l.3

overflow_one : IsOne IsOverflow
overflow_one = after_one IsMark mark_one Less (Then IsFlags (λ fs. IsFine (Overflow (has_nsw fs) (has_nuw fs)))) (then_one IsFlags (λ fs. IsFine (Overflow (has_nsw fs) (has_nuw fs))) flags_one (λ fs. fine_one (Overflow (has_nsw fs) (has_nuw fs))))

-- ---- symbols

part_one : IsOne IsPart
part_one t y y' n n' (inl k) (inl l) =
    let e = token_one (symbol y) (symbol y') t n n' k l in
    (cc (e.0), e.1)
part_one t y y' n n' (inl k) (inr l) = let e = token_one (symbol y) (quoted l.0) t n n' k l.1 in absurd (apart (e.0))
  where
    apart : {a b : List ℕ} → symbol a ≡ quoted b → ⊥
    apart e = absurd cc
part_one t y y' n n' (inr k) (inl l) = let e = token_one (quoted k.0) (symbol y') t n n' k.1 l in absurd (apart (e.0))
  where
    apart : {a b : List ℕ} → quoted a ≡ symbol b → ⊥
    apart e = absurd cc
part_one t y y' n n' (inr k) (inr l) =
    let e = token_one (quoted k.0) (quoted l.0) t n n' k.1 l.1 in
    let raw : k.0 ≡ l.0 = cc (e.0) in
    (k.2 ∙ ap string_bytes raw ∙ sym l.2, e.1)

-- the end, or a `::` and more parts
abbrev PartsEnd : ℕ → List (List ℕ) → Grammar Text (List (List ℕ))
PartsEnd headroom preceding ys mid new = (Not IsMark DoubleColon mid × (ys ≡ preceding) × (new ≡ mid)) ⊎ ((next : Text) × IsMark DoubleColon mid next × IsParts headroom preceding ys next new)

parts_end_one : (headroom : ℕ) (preceding : List (List ℕ)) → IsOne (IsParts headroom preceding) → IsOne (PartsEnd headroom preceding)
parts_end_one headroom preceding more t y y' n n' (inl k) (inl l) = (k.1 ∙ sym l.1, k.2 ∙ sym l.2)
parts_end_one headroom preceding more t y y' n n' (inl k) (inr l) = absurd (k.0 l.0 l.1)
parts_end_one headroom preceding more t y y' n n' (inr k) (inl l) = absurd (l.0 k.0 k.1)
parts_end_one headroom preceding more t y y' n n' (inr k) (inr l) =
    let e = mark_one DoubleColon t k.0 l.0 k.1 l.1 in
    more k.0 y y' n n' k.2 (subst (λ m. IsParts headroom preceding y' m n') (sym e) l.2)

parts_one : (headroom : ℕ) (preceding : List (List ℕ)) → IsOne (IsParts headroom preceding)
unfolding IsParts
parts_one zero preceding t y y' n n' k l = absurd k
parts_one (suc headroom) preceding t y y' n n' k l =
    let e = part_one t k.0 l.0 k.1 l.1 k.2 l.2 in
    parts_end_one headroom (preceding ++ k.0 ∷ []) (parts_one headroom (preceding ++ k.0 ∷ [])) k.1 y y' n n' k.3
    (subst (λ m. PartsEnd headroom (preceding ++ k.0 ∷ []) y' m n') (sym e.1) (subst (λ x. PartsEnd headroom (preceding ++ x ∷ []) y' l.1 n') (sym e.0) l.3))

symbol_one : IsOne IsSymbol
symbol_one = then_one (IsParts many []) (λ parts. IsFine (Symbol parts)) (parts_one many []) (λ parts. fine_one (Symbol parts))

-- ---- dense arrays

element_one : IsOne IsElement
element_one t y y' n n' k l =
    let e = token_one (bare k.0) (bare l.0) t n n' k.1 l.1 in
    let word : k.0 ≡ l.0 = cc (e.0) in
    let some : Some y ≡ Some y' = sym k.2 ∙ ap element_of word ∙ l.2 in
    (cc (some), e.1)

item_number_one : (elem : TypeTerm) (negative : Bool) (digits : List ℕ) (v w : ℤ) → IsItemNumber elem negative digits v → IsItemNumber elem negative digits w → v ≡ w
item_number_one elem negative digits v w k l =
    let some : Some k.0 ≡ Some l.0 = sym k.1 ∙ l.1 in
    let same : k.0 ≡ l.0 = cc (some) in
    let both : Some k.2 ≡ Some l.2 = sym k.3 ∙ ap (literal_bits elem negative) same ∙ l.3 in
    let bits : k.2 ≡ l.2 = cc (both) in
    k.4 ∙ ap (reading_of elem) bits ∙ sym l.4

-- an item by its first token; `rest` is the text after the token
abbrev ItemFrom : TypeTerm → Lexeme → Text → Grammar Text ℤ
ItemFrom elem (bare w) rest v old new = (b : Bool) × (word_of w ≡ Truth b) × (v ≡ reading_of elem (truth_bits b)) × (new ≡ rest)
ItemFrom elem (integer digits) rest v old new = IsItemNumber elem false digits v × (new ≡ rest)
ItemFrom elem (mark m) rest v old new = (digits : List ℕ) × Token (integer digits) rest new × IsItemNumber elem true digits v
ItemFrom elem _ rest v old new = ⊥

item_from_one : (elem : TypeTerm) (l : Lexeme) (rest : Text) → IsOne (ItemFrom elem l rest)
item_from_one elem (bare w) rest t y y' n n' k l =
    let word : Truth k.0 ≡ Truth l.0 = sym k.1 ∙ l.1 in
    let same : k.0 ≡ l.0 = cc (word) in
    (k.2 ∙ ap (λ b. reading_of elem (truth_bits b)) same ∙ sym l.2, k.3 ∙ sym l.3)
item_from_one elem (integer digits) rest t y y' n n' k l = (item_number_one elem false digits y y' k.0 l.0, k.1 ∙ sym l.1)
item_from_one elem (mark m) rest t y y' n n' k l =
    let e = token_one (integer k.0) (integer l.0) rest n n' k.1 l.1 in
    let same : k.0 ≡ l.0 = cc (e.0) in
    (item_number_one elem true k.0 y y' k.2 (subst (λ ds. IsItemNumber elem true ds y') (sym same) l.2), e.1)
item_from_one elem _ rest t y y' n n' k l = absurd k

item_by_token : (elem : TypeTerm) (v : ℤ) (t t' : Text) → IsItem elem v t t' → (l : Lexeme) × (rest : Text) × Token l t rest × ItemFrom elem l rest v t t'
item_by_token elem v t t' (inl k) = (bare k.0, t', k.2, (k.1, k.4, k.5, refl))
item_by_token elem v t t' (inr (inl k)) = (integer k.0, t', k.1, (k.2, refl))
item_by_token elem v t t' (inr (inr k)) = (mark Minus, k.1, k.2, (k.0, k.3, k.4))

item_one : (elem : TypeTerm) → IsOne (IsItem elem)
item_one elem t y y' n n' k l = first_one (ItemFrom elem) (item_from_one elem) t y y' n n' (item_by_token elem y t n k) (item_by_token elem y' t n' l)

items_one : (elem : TypeTerm) → IsOne (IsItems elem)
items_one elem =
    either_one IsMark mark_one Colon (IsMore IsMark Greater (λ before. IsItem elem) many []) (After IsMark Greater (Done [])) (more_one IsMark mark_one Greater (λ before. IsItem elem) (λ before. item_one elem) many [])
    (after_one IsMark mark_one Greater (Done []) (done_one []))

dense_one : IsOne IsDense
dense_one =
    after_one IsMark mark_one Less (Then IsElement (λ elem. Then (IsItems elem) (λ vs. IsFine (DenseArray elem vs))))
    (then_one IsElement (λ elem. Then (IsItems elem) (λ vs. IsFine (DenseArray elem vs))) element_one (λ elem. then_one (IsItems elem) (λ vs. IsFine (DenseArray elem vs)) (items_one elem) (λ vs. fine_one (DenseArray elem vs))))

-- ---- arrays and dictionaries

key_one : IsOne IsKey
key_one t y y' n n' (inl k) (inl l) =
    let e = token_one (bare y) (bare y') t n n' k l in
    (cc (e.0), e.1)
key_one t y y' n n' (inl k) (inr l) = let e = token_one (bare y) (string l.0) t n n' k l.1 in absurd (apart (e.0))
  where
    apart : {a b : List ℕ} → bare a ≡ string b → ⊥
    apart e = absurd cc
key_one t y y' n n' (inr k) (inl l) = let e = token_one (string k.0) (bare y') t n n' k.1 l in absurd (apart (e.0))
  where
    apart : {a b : List ℕ} → string a ≡ bare b → ⊥
    apart e = absurd cc
key_one t y y' n n' (inr k) (inr l) =
    let e = token_one (string k.0) (string l.0) t n n' k.1 l.1 in
    let raw : k.0 ≡ l.0 = cc (e.0) in
    (k.2 ∙ ap string_bytes raw ∙ sym l.2, e.1)

when_one : {B : Type 0} (F : Type 0) (P : Grammar Text B) → IsOne P → IsOne (When F P)
when_one F P one t y y' n n' k l = one t y y' n n' k.1 l.1

unit_value_one : (depth : ℕ) → IsOne (IsUnitValue depth)
unit_value_one zero = none_one
unit_value_one (suc depth) = fine_one Flag

module _ (depth : ℕ) (P : Grammar Text AttrTerm) (item : IsOne P) where
  value_one : IsOne (IsValue depth P)
  value_one = either_one IsMark mark_one Equal P (IsUnitValue depth) item (unit_value_one depth)

  entry_one : (before : List EntryTerm) → IsOne (IsEntry depth P before)
  entry_one before =
      then_one IsKey (λ k. When (has_key bytes_eq k before ≡ false) (Then (IsValue depth P) (λ a. Done (k, a)))) key_one (λ k.
      when_one (has_key bytes_eq k before ≡ false) (Then (IsValue depth P) (λ a. Done (k, a))) (then_one (IsValue depth P) (λ a. Done (k, a)) value_one (λ a. done_one (k, a))))

  dictionary_one : IsOne (IsDictionary depth P)
  unfolding IsDictionary
  dictionary_one =
      then_one (IsList IsMark CloseCurly (IsEntry depth P) 256) (λ es. IsFine (Dictionary (entries_of (in_order key_before es)))) (list_one IsMark mark_one CloseCurly (IsEntry depth P) entry_one 256) (λ es.
      fine_one (Dictionary (entries_of (in_order key_before es))))

  array_one : IsOne (IsArray depth P)
  unfolding IsArray
  array_one =
      then_one (IsList IsMark CloseSquare (λ before. P) many) (λ xs. IsFine (Array (attrs_of xs))) (list_one IsMark mark_one CloseSquare (λ before. P) (λ before. item) many) (λ xs. fine_one (Array (attrs_of xs)))

-- ---- attributes

module _ (o : Bool) (types : ℕ) where
  array_word_one : (rest : Text) → IsOne {T = Text} (λ y old new. IsArrayWord o types rest y new)
  array_word_one rest =
      choice_one (o && opens_other rest) (λ y old new. IsKept o types NoType (bracketed 60 array_word (skip rest)) y new) (λ y old new. IsDense y rest new)
      (λ t y y' n n' k l. kept_one o types NoType (bracketed 60 array_word (skip rest)) y y' n n' k l) (trailing_one rest IsDense dense_one)

  word_one : (w : Word) (rest : Text) → IsOne (IsWordAttr o types w rest)
  word_one (Truth b) rest = trailing_one rest (IsFine (IntegerOf (Integer Signless 1) (truth_bits b))) (fine_one (IntegerOf (Integer Signless 1) (truth_bits b)))
  word_one UnitWord rest = trailing_one rest (IsFine Flag) (fine_one Flag)
  word_one ArrayWord rest = array_word_one rest
  word_one TypeWord rest = type_attr_one o types

  bare_one : (tail : Option Tail) (w : List ℕ) (rest : Text) → IsOne (IsBare o types tail w rest)
  bare_one None w rest = word_one (word_of w) rest
  bare_one (Some tail) w rest = λ t y y' n n' k l. kept_one o types tail (kept_text w rest) y y' n n' k l

  hash_one : (name : List ℕ) (rest : Text) → IsOne {T = Text} (λ y old new. IsHash o types name rest y new)
  hash_one name rest =
      choice_one (bytes_eq name overflow_word) (λ y old new. IsOverflow y rest new) (λ y old new. (o ≡ true) × IsKept o types TypeOrNone (dialect_text 35 name rest) y new)
      (trailing_one rest IsOverflow overflow_one) (λ t y y' n n' k l. kept_one o types TypeOrNone (dialect_text 35 name rest) y y' n n' k.1 l.1)

module _ (o : Bool) (depth : ℕ) (P : Grammar Text AttrTerm) (item : IsOne P) where
  marked_one : (m : Mark) (rest : Text) → IsOne (IsMarkAttr o depth P m rest)
  marked_one Minus rest = trailing_one rest (IsNegative o (suc depth)) (negative_one o (suc depth))
  marked_one OpenRound rest = type_attr_one o (suc depth)
  marked_one OpenSquare rest = trailing_one rest (IsArray depth P) (array_one depth P item)
  marked_one OpenCurly rest = trailing_one rest (IsDictionary depth P) (dictionary_one depth P item)
  marked_one _ rest = none_one

  attr_from_one : (l : Lexeme) (rest : Text) → IsOne (IsAttrFrom o depth P l rest)
  attr_from_one (bare w) rest = bare_one o (suc depth) (tail_in o w) w rest
  attr_from_one (mark m) rest = marked_one m rest
  attr_from_one (integer digits) rest = trailing_one rest (IsLiteral o false digits) (literal_one o false digits)
  attr_from_one (float digits) rest = λ t y y' n n' k l. tail_one o (suc depth) OpaqueOrNone digits rest y y' n n' k.1 l.1
  attr_from_one (string raw) rest = trailing_one rest (IsString o (suc depth) raw) (string_one o (suc depth) raw)
  attr_from_one (symbol n) rest = symbol_one
  attr_from_one (quoted raw) rest = symbol_one
  attr_from_one (hash name) rest = hash_one o (suc depth) name rest
  attr_from_one (bang name) rest = type_attr_one o (suc depth)
  attr_from_one _ rest = none_one

pub attr_one : (o : Bool) (depth : ℕ) → IsOne (IsAttr o depth)
unfolding IsAttr
attr_one o zero = none_one
attr_one o (suc depth) = first_one (IsAttrFrom o depth (IsAttr o depth)) (attr_from_one o depth (IsAttr o depth) (attr_one o depth))
