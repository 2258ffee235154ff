-- The grammar of attributes, as terms. Language Reference, "Attributes"; Builtin Dialect, "Attributes".
use Rattle.std.specs.Prelude.{◌≡◌, ◌⊎◌, ℕ, zero, suc, Bool, true, false, ◌&&◌, List, [], ◌∷◌, ◌++◌, Option, Some, None, ℤ}
use Rattle.std.specs.Str.{bytes_eq}
use Rattle.ir_text_tokens.specs.declared.token.Mark.{Mark}
use Rattle.ir_text_tokens.specs.declared.token.Mark.TheVariants.{OpenRound, OpenCurly, CloseCurly, OpenSquare, CloseSquare, Less, Greater, Equal, Colon, DoubleColon, Minus}
use Rattle.ir_text_tokens.specs.Tokens.{Lexeme, mark, integer, float, string, bare, hash, bang, symbol, quoted, skip}
use Rattle.ir_text_tokens.specs.Strings.{string_bytes}
use Rattle.ir_text_tokens.specs.Numbers.{integer_of, below_limit}
use Rattle.ir_types.specs.declared.node.Sign.TheVariants.{Signless}
use Rattle.ir_types.specs.Limits.{most_depth, most_entries}
use Rattle.ir_types.specs.Terms.{TypeTerm, Integer, AttrTerm, IntegerOf, String, TypeOf, Flag, Array, Dictionary, Symbol, DenseArray, Overflow, OpaqueOf, AttrTerms, no_attrs, next_attr, EntryTerms, no_entries, next_entry}
use Rattle.ir_types.specs.Readings.{literal_bits, reading_of}
use Rattle.ir_types.specs.Reasons.{attr_fault}
use Rattle.ir_tree.specs.Meaning.{key_before}
use Rattle.ir_text_attributes.specs.declared.flag.Flag as code
use Rattle.ir_text_types.specs.Grammars.{Grammar, Then, Done, DoneIf, When, After, Not, Either, IsMore, IsList, Token, IsMark}
use Rattle.ir_text_types.specs.TypeReading.{many}
use Rattle.ir_text_types.specs.Typed.{Text}
use Rattle.ir_text_types.specs.OpaqueTypes.{bracketed, dialect_text}
use Rattle.ir_text_types.specs.TypeGrammar.{IsType}
use Rattle.ir_text_attributes.specs.declared.tail.Tail.{Tail}
use Rattle.ir_text_attributes.specs.declared.tail.Tail.TheVariants.{SomeType, TypeOrNone, OpaqueOrNone, NoType}
use Rattle.ir_text_attributes.specs.OpaqueAttributes.{tail_in, kept_text, quoted_text, signed_text, is_hexadecimal, is_opaque_type, opens_other}
use Rattle.ir_text_attributes.specs.Literals.{Word, Truth, UnitWord, ArrayWord, TypeWord, array_word, word_of, truth_bits, overflow_word, none_word, flag_of, has_nsw, has_nuw}
use Rattle.ir_text_attributes.specs.Keyed.{has_key, in_order}
pub use Rattle.ir_text_attributes.specs.Elements.{is_bit, element_of}

-- the end, if the attribute is valid: its number is a value of its type, and it isn't too deep
abbrev pub IsFine : AttrTerm → Grammar Text AttrTerm
IsFine y = DoneIf (attr_fault y ≡ None) y

-- a magnitude with an optional minus sign, as a literal of a type, which determines its bits
abbrev pub IsIntegerOf : Bool → ℕ → TypeTerm → Grammar Text AttrTerm
IsIntegerOf negative n t y old new = (bits : ℕ) × (literal_bits t negative n ≡ Some bits) × IsFine (IntegerOf t bits) y old new

-- hexadecimal digits of an opaque type are an opaque attribute; other digits are an integer
abbrev pub IsLiteralOf : Bool → List ℕ → ℕ → TypeTerm → Grammar Text AttrTerm
IsLiteralOf negative digits n t y old new =
    (((is_opaque_type t && is_hexadecimal digits) ≡ true) × IsFine (OpaqueOf (signed_text negative digits) (Some t)) y old new)
    ⊎ (((is_opaque_type t && is_hexadecimal digits) ≡ false) × IsIntegerOf negative n t y old new)

-- attributes that begin with a type; `opaque` says whether opaque types and attributes are allowed, and `types` is
-- the depth limit of types
module _ (opaque : Bool) where
  -- a type as an attribute
  abbrev pub IsTypeAttr : ℕ → Grammar Text AttrTerm
  IsTypeAttr types = Then (IsType opaque types) (λ t. IsFine (TypeOf t))

  -- ---- literals

  -- the type after a colon, or `i64` if there is no colon
  abbrev pub IsSuffix : Grammar Text TypeTerm
  IsSuffix = Either IsMark Colon (IsType opaque most_depth) (Done (Integer Signless 64))

  -- a literal after its digits
  abbrev pub IsLiteral : Bool → List ℕ → Grammar Text AttrTerm
  IsLiteral negative digits y old new =
      (n : ℕ) × (below_limit (integer_of digits) ≡ Some n) × Then IsSuffix (IsLiteralOf negative digits n) y old new

  -- ---- opaque attributes

  -- the type after the colon
  abbrev pub IsTyped : ℕ → List ℕ → Grammar Text AttrTerm
  IsTyped types text = Then (IsType opaque types) (λ t. IsFine (OpaqueOf text (Some t)))

  abbrev pub IsOpaqueTyped : ℕ → List ℕ → Grammar Text AttrTerm
  IsOpaqueTyped types text = Then (IsType opaque types) (λ t. When (is_opaque_type t ≡ true) (IsFine (OpaqueOf text (Some t))))

  -- what follows the text
  abbrev pub IsTail : ℕ → Tail → List ℕ → Grammar Text AttrTerm
  IsTail types SomeType text = After IsMark Colon (IsTyped types text)
  IsTail types TypeOrNone text = Either IsMark Colon (IsTyped types text) (IsFine (OpaqueOf text None))
  IsTail types OpaqueOrNone text = Either IsMark Colon (IsOpaqueTyped types text) (IsFine (OpaqueOf text None))
  IsTail types NoType text = IsFine (OpaqueOf text None)

  -- a text, if there is one, and what follows it
  abbrev pub IsKept : ℕ → Tail → Option (List ℕ × List ℕ) → AttrTerm → Text → Type 0
  IsKept types tail found y new = (x : List ℕ × List ℕ) × (found ≡ Some x) × IsTail types tail x.0 y x.1 new

  -- a string; with a type it is an opaque attribute
  abbrev pub IsString : ℕ → List ℕ → Grammar Text AttrTerm
  IsString types raw y old new =
      ((opaque ≡ true) × Either IsMark Colon (IsTyped types (quoted_text raw)) (IsFine (String (string_bytes raw))) y old new)
      ⊎ ((opaque ≡ false) × IsFine (String (string_bytes raw)) y old new)

  -- the attribute after a minus sign, given the token
  abbrev pub IsNegativeFrom : ℕ → Lexeme → Grammar Text AttrTerm
  IsNegativeFrom types (integer digits) y rest new = IsLiteral true digits y rest new
  IsNegativeFrom types (float digits) y rest new = (opaque ≡ true) × IsTail types OpaqueOrNone (45 ∷ digits) y rest new
  IsNegativeFrom types _ y rest new = ⊥

  abbrev pub IsNegative : ℕ → Grammar Text AttrTerm
  IsNegative types y old new = (t : Lexeme) × (rest : Text) × Token t old rest × IsNegativeFrom types t y rest new

-- ---- flags

abbrev pub IsFlag : Grammar Text code.Flag
IsFlag f old new = (w : List ℕ) × Token (bare w) old new × (flag_of w ≡ Some f)

-- the word `none`, or comma-separated flags, up to the closing mark
abbrev pub IsFlags : Grammar Text (List code.Flag)
IsFlags fs old new =
    (w : List ℕ) × (rest : Text) × Token (bare w) old rest
    × (((bytes_eq w none_word ≡ true) × IsMark Greater rest new × (fs ≡ [])) ⊎ ((bytes_eq w none_word ≡ false) × IsMore IsMark Greater (λ before. IsFlag) many [] fs old new))

abbrev pub IsOverflow : Grammar Text AttrTerm
IsOverflow = After IsMark Less (Then IsFlags (λ fs. IsFine (Overflow (has_nsw fs) (has_nuw fs))))

-- ---- symbols

-- a part of a symbol reference
abbrev pub IsPart : Grammar Text (List ℕ)
IsPart n old new = Token (symbol n) old new ⊎ ((raw : List ℕ) × Token (quoted raw) old new × (n ≡ string_bytes raw))

-- the parts of `front` and at least one more, separated by `::`; at most `room` more
unfoldable pub IsParts : ℕ → List (List ℕ) → Grammar Text (List (List ℕ))
IsParts zero preceding ys old new = ⊥
IsParts (suc headroom) preceding ys old new =
    (n : List ℕ) × (mid : Text) × IsPart n old mid
    × ((Not IsMark DoubleColon mid × (ys ≡ preceding ++ n ∷ []) × (new ≡ mid)) ⊎ ((next : Text) × IsMark DoubleColon mid next × IsParts headroom (preceding ++ n ∷ []) ys next new))

abbrev pub IsSymbol : Grammar Text AttrTerm
IsSymbol = Then (IsParts many []) (λ parts. IsFine (Symbol parts))

-- ---- dense arrays

-- an element type
abbrev pub IsElement : Grammar Text TypeTerm
IsElement elem old new = (w : List ℕ) × Token (bare w) old new × (element_of w ≡ Some elem)

-- digits with an optional minus sign, as a literal of the type; v is the number that its bits denote
abbrev pub IsItemNumber : TypeTerm → Bool → List ℕ → ℤ → Type 0
IsItemNumber elem negative digits v =
    (n : ℕ) × (below_limit (integer_of digits) ≡ Some n) × (bits : ℕ) × (literal_bits elem negative n ≡ Some bits) × (v ≡ reading_of elem bits)

-- a number, or a truth value if the items have one bit
abbrev pub IsItem : TypeTerm → Grammar Text ℤ
IsItem elem v old new =
    ((w : List ℕ) × (b : Bool) × Token (bare w) old new × (is_bit elem ≡ true) × (word_of w ≡ Truth b) × (v ≡ reading_of elem (truth_bits b)))
    ⊎ (((digits : List ℕ) × Token (integer digits) old new × IsItemNumber elem false digits v)
    ⊎ ((digits : List ℕ) × (mid : Text) × IsMark Minus old mid × Token (integer digits) mid new × IsItemNumber elem true digits v))

-- after the element type: a colon and items, or no items, up to the closing mark
abbrev pub IsItems : TypeTerm → Grammar Text (List ℤ)
IsItems elem = Either IsMark Colon (IsMore IsMark Greater (λ before. IsItem elem) many []) (After IsMark Greater (Done []))

-- a dense array after its word
abbrev pub IsDense : Grammar Text AttrTerm
IsDense = After IsMark Less (Then IsElement (λ elem. Then (IsItems elem) (λ vs. IsFine (DenseArray elem vs))))

-- ---- arrays and dictionaries

-- a list of attributes as one term
abbrev pub attrs_of : List AttrTerm → AttrTerms
attrs_of [] = no_attrs
attrs_of (a ∷ as') = next_attr a (attrs_of as')

-- the bytes of a key, and an attribute
abbrev pub EntryTerm : Type 0
EntryTerm = List ℕ × AttrTerm

-- a list of entries as one term
abbrev pub entries_of : List EntryTerm → EntryTerms
entries_of [] = no_entries
entries_of (e ∷ es) = next_entry e.0 e.1 (entries_of es)

abbrev pub IsKey : Grammar Text (List ℕ)
IsKey k old new = Token (bare k) old new ⊎ ((raw : List ℕ) × Token (string raw) old new × (k ≡ string_bytes raw))

-- unit, which has depth 1, if the depth limit allows it
abbrev pub IsUnitValue : ℕ → Grammar Text AttrTerm
IsUnitValue zero y old new = ⊥
IsUnitValue (suc depth) y old new = IsFine Flag y old new

-- P derives attributes of at most this depth
module _ (depth : ℕ) (P : Grammar Text AttrTerm) where
  -- the attribute after an equal sign, or unit if there is no equal sign
  abbrev pub IsValue : Grammar Text AttrTerm
  IsValue = Either IsMark Equal P (IsUnitValue depth)

  -- an entry whose key isn't in `before`
  abbrev pub IsEntry : List EntryTerm → Grammar Text EntryTerm
  IsEntry before = Then IsKey (λ k. When (has_key bytes_eq k before ≡ false) (Then IsValue (λ a. Done (k, a))))

  -- a dictionary after its opening brace, with at most as many entries as a dictionary may have
  unfoldable pub IsDictionary : Grammar Text AttrTerm
  IsDictionary = Then (IsList IsMark CloseCurly IsEntry most_entries) (λ es. IsFine (Dictionary (entries_of (in_order key_before es))))

  -- an array after its opening bracket
  unfoldable pub IsArray : Grammar Text AttrTerm
  IsArray = Then (IsList IsMark CloseSquare (λ before. P) many) (λ xs. IsFine (Array (attrs_of xs)))

-- ---- by the first token; `rest` is the text after the token

module _ (opaque : Bool) (types : ℕ) where
  -- a dense array of integers, or an opaque array
  abbrev pub IsArrayWord : Text → AttrTerm → Text → Type 0
  IsArrayWord rest y new =
      (((opaque && opens_other rest) ≡ true) × IsKept opaque types NoType (bracketed 60 array_word (skip rest)) y new)
      ⊎ (((opaque && opens_other rest) ≡ false) × IsDense y rest new)

  abbrev pub IsWordAttr : Word → Text → Grammar Text AttrTerm
  IsWordAttr (Truth b) rest y old new = IsFine (IntegerOf (Integer Signless 1) (truth_bits b)) y rest new
  IsWordAttr UnitWord rest y old new = IsFine Flag y rest new
  IsWordAttr ArrayWord rest y old new = IsArrayWord rest y new
  IsWordAttr TypeWord rest y old new = IsTypeAttr opaque types y old new

  -- given what follows the text of an opaque attribute that begins with the word, if one does
  abbrev pub IsBare : Option Tail → List ℕ → Text → Grammar Text AttrTerm
  IsBare None word rest y old new = IsWordAttr (word_of word) rest y old new
  IsBare (Some tail) word rest y old new = IsKept opaque types tail (kept_text word rest) y new

  -- after a sigil and a name: overflow flags, or a dialect's attribute
  abbrev pub IsHash : List ℕ → Text → AttrTerm → Text → Type 0
  IsHash name rest y new =
      ((bytes_eq name overflow_word ≡ true) × IsOverflow y rest new)
      ⊎ ((bytes_eq name overflow_word ≡ false) × ((opaque ≡ true) × IsKept opaque types TypeOrNone (dialect_text 35 name rest) y new))

module _ (opaque : Bool) (depth : ℕ) (P : Grammar Text AttrTerm) where
  abbrev pub IsMarkAttr : Mark → Text → Grammar Text AttrTerm
  IsMarkAttr Minus rest y old new = IsNegative opaque (suc depth) y rest new
  IsMarkAttr OpenRound rest y old new = IsTypeAttr opaque (suc depth) y old new
  IsMarkAttr OpenSquare rest y old new = IsArray depth P y rest new
  IsMarkAttr OpenCurly rest y old new = IsDictionary depth P y rest new
  IsMarkAttr _ rest y old new = ⊥

  abbrev pub IsAttrFrom : Lexeme → Text → Grammar Text AttrTerm
  IsAttrFrom (bare w) rest y old new = IsBare opaque (suc depth) (tail_in opaque w) w rest y old new
  IsAttrFrom (mark m) rest y old new = IsMarkAttr m rest y old new
  IsAttrFrom (integer digits) rest y old new = IsLiteral opaque false digits y rest new
  IsAttrFrom (float digits) rest y old new = (opaque ≡ true) × IsTail opaque (suc depth) OpaqueOrNone digits y rest new
  IsAttrFrom (string raw) rest y old new = IsString opaque (suc depth) raw y rest new
  IsAttrFrom (symbol n) rest y old new = IsSymbol y old new
  IsAttrFrom (quoted raw) rest y old new = IsSymbol y old new
  IsAttrFrom (hash name) rest y old new = IsHash opaque (suc depth) name rest y new
  IsAttrFrom (bang name) rest y old new = IsTypeAttr opaque (suc depth) y old new
  IsAttrFrom _ rest y old new = ⊥

-- an attribute of at most this depth
unfoldable pub IsAttr : Bool → ℕ → Grammar Text AttrTerm
IsAttr opaque zero y old new = ⊥
IsAttr opaque (suc depth) y old new = (t : Lexeme) × (rest : Text) × Token t old rest × IsAttrFrom opaque depth (IsAttr opaque depth) t rest y old new
