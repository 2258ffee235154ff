-- Parses attributes into ids of a context.
use Rattle.std.specs.Prelude.{ℕ, zero, suc, nat_eq, Bool, true, false, ◌&&◌, if◌then◌else◌, List, [], ◌∷◌, ◌++◌, Option, Some, None, ℤ}
use Rattle.std.specs.Str.{bytes_eq}
use Rattle.ir_text_tokens.specs.declared.token.Mark.{Mark}
use Rattle.ir_text_tokens.specs.declared.token.Mark.TheVariants.{OpenRound, OpenCurly, CloseCurly, OpenSquare, CloseSquare, Less, Greater, Equal, Colon, DoubleColon, Minus}
use Rattle.ir_text_tokens.specs.Tokens.{Lexeme, mark, integer, float, string, bare, hash, bang, symbol, quoted, next, skip}
use Rattle.ir_text_tokens.specs.Strings.{string_bytes}
use Rattle.ir_text_tokens.specs.Numbers.{integer_of, below_limit}
use Rattle.ir_types.specs.declared.node.Sign.TheVariants.{Signless}
use Rattle.ir_types.specs.declared.node.TypeNode.TheVariants as type
use Rattle.ir_types.specs.declared.node.AttrNode.{AttrNode}
use Rattle.ir_types.specs.declared.node.AttrNode.TheVariants as attr
use Rattle.ir_types.specs.Things.{ContextModel}
use Rattle.ir_types.specs.Limits.{most_depth, most_entries}
use Rattle.ir_types.specs.Terms.{TypeTerm, type_term}
use Rattle.ir_types.specs.Readings.{literal_bits, reading_of}
use Rattle.ir_text_attributes.specs.declared.flag.Flag.{Flag}
use Rattle.ir_text_attributes.specs.declared.element.Element.{Element}
use Rattle.ir_text_types.specs.Outcomes.{Outcome, Read, Wrong, ◌>>=◌, of_option, Parse}
use Rattle.ir_text_types.specs.Lists.{more_at, list_at}
use Rattle.ir_text_types.specs.Typed.{Typed, after_typed, name_step, attr_step}
use Rattle.ir_text_types.specs.OpaqueTypes.{bracketed, dialect_text}
use Rattle.ir_text_types.specs.TypeReading.{many, type_done, type_at}
use Rattle.ir_text_attributes.specs.declared.tail.Tail.{Tail}
use Rattle.ir_text_attributes.specs.declared.tail.Tail.TheVariants.{SomeType, TypeOrNone, OpaqueOrNone, NoType}
use Rattle.ir_text_attributes.specs.OpaqueAttributes.{tail_in, kept_text, quoted_text, signed_text, is_hexadecimal, is_opaque_type, opens_other}
use Rattle.ir_text_attributes.specs.Literals.{Word, Truth, UnitWord, ArrayWord, TypeWord, array_word, word_of, truth_bits, overflow_word, none_word, flag_of, has_nsw, has_nuw}
use Rattle.ir_text_attributes.specs.Elements.{bits_of, type_of, element_named, is_bit, item_value}
use Rattle.ir_text_attributes.specs.Keyed.{has_key}

-- interns a node without reading any text
unfoldable pub attr_done : AttrNode → Parse Typed ℕ
attr_done node s = do
  n ← attr_step node s.1
  Read (n.0, (s.0, n.1))

-- interns a name without reading any text
unfoldable pub name_done : List ℕ → Parse Typed ℕ
name_done bytes s = do
  n ← name_step bytes s.1
  Read (n.0, (s.0, n.1))

unfoldable pub truth_at : Bool → Parse Typed ℕ
truth_at b s = do
  t ← type_done (type.Int Signless 1) s
  attr_done (attr.Int t.0 (truth_bits b)) t.1

unfoldable pub string_attr_at : List ℕ → Parse Typed ℕ
string_attr_at raw s = do
  n ← name_step (string_bytes raw) s.1
  attr_done (attr.Str n.0) (s.0, n.1)

-- the literal of a type, if it fits; hexadecimal digits of an opaque type are an opaque attribute
abbrev pub literal_of : Bool → List ℕ → ℕ → ℕ → TypeTerm → Parse Typed ℕ
literal_of negative digits n t ty s =
    if is_opaque_type ty && is_hexadecimal digits then attr_done (attr.Opaque (signed_text negative digits) (Some t)) s
    else of_option (literal_bits ty negative n) >>= λ bits. attr_done (attr.Int t bits) s

unfoldable pub literal_done : Bool → List ℕ → ℕ → ℕ → Parse Typed ℕ
literal_done negative digits n t s = literal_of negative digits n t (type_term s.1 t) s

-- attributes that begin with a type; `opaque` says whether opaque types and attributes are allowed, and `types` is
-- the depth limit of types
module _ (opaque : Bool) where
  unfoldable pub type_attr_at : ℕ → Parse Typed ℕ
  type_attr_at types s = do
    t ← type_at opaque types s
    attr_done (attr.Ty t.0) t.1

  -- ---- literals

  abbrev pub suffix_from : Typed → Option Typed → Outcome (ℕ × Typed)
  suffix_from s (Some c) = type_at opaque most_depth c
  suffix_from s None = type_done (type.Int Signless 64) s

  -- the type of a literal: `i64` if no colon follows
  unfoldable pub suffix_at : Parse Typed ℕ
  suffix_at s = suffix_from s (after_typed Colon s)

  -- a literal after its digits
  unfoldable pub literal_at : Bool → List ℕ → Parse Typed ℕ
  literal_at negative digits s = do
    n ← of_option (below_limit (integer_of digits))
    t ← suffix_at s
    literal_done negative digits n t.0 t.1

  -- ---- opaque attributes

  -- the type after the colon
  unfoldable pub typed_at : ℕ → List ℕ → Parse Typed ℕ
  typed_at types text s = do
    t ← type_at opaque types s
    attr_done (attr.Opaque text (Some t.0)) t.1

  abbrev pub opaque_of : ℕ → List ℕ → TypeTerm → Parse Typed ℕ
  opaque_of t text ty s = if is_opaque_type ty then attr_done (attr.Opaque text (Some t)) s else Wrong

  unfoldable pub opaque_typed_done : ℕ → List ℕ → Parse Typed ℕ
  opaque_typed_done t text s = opaque_of t text (type_term s.1 t) s

  unfoldable pub opaque_typed_at : ℕ → List ℕ → Parse Typed ℕ
  opaque_typed_at types text s = do
    t ← type_at opaque types s
    opaque_typed_done t.0 text t.1

  -- p parses the text after a colon, and q the text if there is no colon
  abbrev pub colon_from : Parse Typed ℕ → Parse Typed ℕ → Typed → Option Typed → Outcome (ℕ × Typed)
  colon_from p q s (Some c) = p c
  colon_from p q s None = q s

  -- what follows the text
  abbrev pub tail_at : ℕ → Tail → List ℕ → Parse Typed ℕ
  tail_at types SomeType text s = of_option (after_typed Colon s) >>= typed_at types text
  tail_at types TypeOrNone text s = colon_from (typed_at types text) (attr_done (attr.Opaque text None)) s (after_typed Colon s)
  tail_at types OpaqueOrNone text s = colon_from (opaque_typed_at types text) (attr_done (attr.Opaque text None)) s (after_typed Colon s)
  tail_at types NoType text s = attr_done (attr.Opaque text None) s

  -- a text, if there is one, and what follows it
  abbrev pub kept_at : ℕ → Tail → Option (List ℕ × List ℕ) → ContextModel → Outcome (ℕ × Typed)
  kept_at types tail found c = of_option found >>= λ x. tail_at types tail x.0 (x.1, c)

  -- a string; with a type it is an opaque attribute
  abbrev pub string_at : ℕ → List ℕ → Parse Typed ℕ
  string_at types raw s =
      if opaque then colon_from (typed_at types (quoted_text raw)) (string_attr_at raw) s (after_typed Colon s)
      else string_attr_at raw s

  abbrev pub negative_from : ℕ → ContextModel → Lexeme → List ℕ → Outcome (ℕ × Typed)
  negative_from types c (integer digits) rest = literal_at true digits (rest, c)
  negative_from types c (float digits) rest = if opaque then tail_at types OpaqueOrNone (45 ∷ digits) (rest, c) else Wrong
  negative_from types c _ rest = Wrong

  -- the attribute after a minus sign
  unfoldable pub negative_at : ℕ → Parse Typed ℕ
  negative_at types s = of_option (next s.0) >>= λ t. negative_from types s.1 t.0 t.1

-- ---- flags

abbrev pub flag_from : ContextModel → Lexeme → List ℕ → Outcome (Flag × Typed)
flag_from c (bare w) rest = of_option (flag_of w) >>= λ f. Read (f, (rest, c))
flag_from c _ rest = Wrong

unfoldable pub flag_at : Parse Typed Flag
flag_at s = of_option (next s.0) >>= λ t. flag_from s.1 t.0 t.1

unfoldable pub some_flags_at : Parse Typed (List Flag)
some_flags_at s = more_at after_typed Greater (λ before. flag_at) many [] s

unfoldable pub no_flags_at : Parse Typed (List Flag)
no_flags_at s = of_option (after_typed Greater s) >>= λ e. Read ([], e)

abbrev pub flags_from : Typed → Lexeme → List ℕ → Outcome (List Flag × Typed)
flags_from s (bare w) rest = if bytes_eq w none_word then no_flags_at (rest, s.1) else some_flags_at s
flags_from s _ rest = Wrong

-- `none`, or flags, up to the closing mark
unfoldable pub flags_at : Parse Typed (List Flag)
flags_at s = of_option (next s.0) >>= λ t. flags_from s t.0 t.1

unfoldable pub overflow_at : Parse Typed ℕ
overflow_at s = do
  c ← of_option (after_typed Less s)
  f ← flags_at c
  attr_done (attr.Overflow (has_nsw f.0) (has_nuw f.0)) f.1

-- ---- symbols

abbrev pub part_from : ContextModel → Lexeme → List ℕ → Outcome (ℕ × Typed)
part_from c (symbol n) rest = name_done n (rest, c)
part_from c (quoted raw) rest = name_done (string_bytes raw) (rest, c)
part_from c _ rest = Wrong

unfoldable pub part_at : Parse Typed ℕ
part_at s = of_option (next s.0) >>= λ t. part_from s.1 t.0 t.1

abbrev pub parts_from : Parse Typed (List ℕ) → List ℕ → Typed → Option Typed → Outcome (List ℕ × Typed)
parts_from go items s (Some c) = go c
parts_from go items s None = Read (items, s)

-- the parts so far and at least one more, with at most `room` more
unfoldable pub parts_at : ℕ → List ℕ → Parse Typed (List ℕ)
parts_at zero items s = Wrong
parts_at (suc headroom) items s = part_at s >>= λ x. parts_from (parts_at headroom (items ++ x.0 ∷ [])) (items ++ x.0 ∷ []) x.1 (after_typed DoubleColon x.1)

unfoldable pub symbol_attr_at : Parse Typed ℕ
symbol_attr_at s = do
  ns ← parts_at many [] s
  attr_done (attr.Sym ns.0) ns.1

-- ---- dense arrays

abbrev pub element_from : ContextModel → Lexeme → List ℕ → Outcome (Element × Typed)
element_from c (bare w) rest = of_option (element_named w) >>= λ e. Read (e, (rest, c))
element_from c _ rest = Wrong

unfoldable pub element_at : Parse Typed Element
element_at s = of_option (next s.0) >>= λ t. element_from s.1 t.0 t.1

abbrev pub truth_item : TypeTerm → Word → Parse Typed ℤ
truth_item elem (Truth b) s = if is_bit elem then Read (reading_of elem (truth_bits b), s) else Wrong
truth_item elem _ s = Wrong

abbrev pub number_item : TypeTerm → Bool → List ℕ → Parse Typed ℤ
number_item elem negative digits s = of_option (item_value elem negative digits) >>= λ v. Read (v, s)

abbrev pub minus_from : TypeTerm → ContextModel → Lexeme → List ℕ → Outcome (ℤ × Typed)
minus_from elem c (integer digits) rest = number_item elem true digits (rest, c)
minus_from elem c _ rest = Wrong

-- an item after its minus sign
unfoldable pub minus_item : TypeTerm → Parse Typed ℤ
minus_item elem s = of_option (next s.0) >>= λ t. minus_from elem s.1 t.0 t.1

abbrev pub mark_item : TypeTerm → Mark → Parse Typed ℤ
mark_item elem Minus s = minus_item elem s
mark_item elem _ s = Wrong

abbrev pub item_from : TypeTerm → ContextModel → Lexeme → List ℕ → Outcome (ℤ × Typed)
item_from elem c (bare w) rest = truth_item elem (word_of w) (rest, c)
item_from elem c (integer digits) rest = number_item elem false digits (rest, c)
item_from elem c (mark m) rest = mark_item elem m (rest, c)
item_from elem c _ rest = Wrong

unfoldable pub item_at : TypeTerm → Parse Typed ℤ
item_at elem s = of_option (next s.0) >>= λ t. item_from elem s.1 t.0 t.1

unfoldable pub some_items_at : TypeTerm → Parse Typed (List ℤ)
some_items_at elem s = more_at after_typed Greater (λ before. item_at elem) many [] s

unfoldable pub no_items_at : Parse Typed (List ℤ)
no_items_at s = of_option (after_typed Greater s) >>= λ e. Read ([], e)

abbrev pub items_from : TypeTerm → Typed → Option Typed → Outcome (List ℤ × Typed)
items_from elem s (Some c) = some_items_at elem c
items_from elem s None = no_items_at s

-- the items after the element type
unfoldable pub items_at : TypeTerm → Parse Typed (List ℤ)
items_at elem s = items_from elem s (after_typed Colon s)

unfoldable pub dense_done : Element → Parse Typed ℕ
dense_done e s = do
  t ← type_done (type.Int Signless (bits_of e)) s
  vs ← items_at (type_of e) t.1
  attr_done (attr.Dense t.0 vs.0) vs.1

-- a dense array after its word
unfoldable pub dense_at : Parse Typed ℕ
dense_at s = do
  c ← of_option (after_typed Less s)
  e ← element_at c
  dense_done e.0 e.1

-- ---- arrays and dictionaries

abbrev pub Entries : Type 0
Entries = List (ℕ × ℕ)

abbrev pub key_from : ContextModel → Lexeme → List ℕ → Outcome (ℕ × Typed)
key_from c (bare w) rest = name_done w (rest, c)
key_from c (string raw) rest = name_done (string_bytes raw) (rest, c)
key_from c _ rest = Wrong

unfoldable pub key_at : Parse Typed ℕ
key_at s = of_option (next s.0) >>= λ t. key_from s.1 t.0 t.1

-- unit, if a depth of 1 is left
unfoldable pub unit_value_at : ℕ → Parse Typed ℕ
unit_value_at zero s = Wrong
unit_value_at (suc depth) s = attr_done attr.Unit s

-- p parses attributes of at most this depth
module _ (depth : ℕ) (p : Parse Typed ℕ) where
  abbrev pub value_from : Typed → Option Typed → Outcome (ℕ × Typed)
  value_from s (Some c) = p c
  value_from s None = unit_value_at depth s

  -- the attribute after an equal sign, or unit if there is no equal sign
  unfoldable pub value_by : Parse Typed ℕ
  value_by s = value_from s (after_typed Equal s)

  unfoldable pub entry_by : Entries → Parse Typed (ℕ × ℕ)
  entry_by before s = do
    k ← key_at s
    a ← (if has_key nat_eq k.0 before then Wrong else value_by k.1)
    Read ((k.0, a.0), a.1)

  -- entries up to the closing brace
  unfoldable pub entries_by : Parse Typed Entries
  entries_by s = list_at after_typed CloseCurly entry_by most_entries s

  -- a dictionary after its opening brace
  unfoldable pub dictionary_by : Parse Typed ℕ
  dictionary_by s = do
    es ← entries_by s
    attr_done (attr.Dict es.0) es.1

  -- attributes up to the closing bracket
  unfoldable pub attrs_by : Parse Typed (List ℕ)
  attrs_by s = list_at after_typed CloseSquare (λ before. p) many s

  -- an array after its opening bracket
  unfoldable pub array_by : Parse Typed ℕ
  array_by s = do
    xs ← attrs_by s
    attr_done (attr.Array xs.0) xs.1

-- ---- by the first token; `rest` is the text after the token, and types have a separate depth limit

module _ (opaque : Bool) (types : ℕ) where
  -- a dense array of integers, or an opaque array
  abbrev pub array_word_at : ContextModel → List ℕ → Outcome (ℕ × Typed)
  array_word_at c rest = if opaque && opens_other rest then kept_at opaque types NoType (bracketed 60 array_word (skip rest)) c else dense_at (rest, c)

  abbrev pub word_attr : Word → Typed → List ℕ → Outcome (ℕ × Typed)
  word_attr (Truth b) s rest = truth_at b (rest, s.1)
  word_attr UnitWord s rest = attr_done attr.Unit (rest, s.1)
  word_attr ArrayWord s rest = array_word_at s.1 rest
  word_attr TypeWord s rest = type_attr_at opaque types s

  -- given what follows the text of an opaque attribute that begins with the word, if one does
  abbrev pub bare_attr : Option Tail → List ℕ → Typed → List ℕ → Outcome (ℕ × Typed)
  bare_attr None word s rest = word_attr (word_of word) s rest
  bare_attr (Some tail) word s rest = kept_at opaque types tail (kept_text word rest) s.1

  -- after a sigil and a name: overflow flags, or a dialect's attribute
  abbrev pub hash_attr : List ℕ → Typed → List ℕ → Outcome (ℕ × Typed)
  hash_attr name s rest =
      if bytes_eq name overflow_word then overflow_at (rest, s.1)
      else if opaque then kept_at opaque types TypeOrNone (dialect_text 35 name rest) s.1
      else Wrong

module _ (opaque : Bool) (types depth : ℕ) (p : Parse Typed ℕ) where
  abbrev pub mark_attr : Mark → Typed → List ℕ → Outcome (ℕ × Typed)
  mark_attr Minus s rest = negative_at opaque types (rest, s.1)
  mark_attr OpenRound s rest = type_attr_at opaque types s
  mark_attr OpenSquare s rest = array_by depth p (rest, s.1)
  mark_attr OpenCurly s rest = dictionary_by depth p (rest, s.1)
  mark_attr _ s rest = Wrong

  abbrev pub attr_from : Typed → Lexeme → List ℕ → Outcome (ℕ × Typed)
  attr_from s (bare w) rest = bare_attr opaque types (tail_in opaque w) w s rest
  attr_from s (mark m) rest = mark_attr m s rest
  attr_from s (integer digits) rest = literal_at opaque false digits (rest, s.1)
  attr_from s (float digits) rest = if opaque then tail_at opaque types OpaqueOrNone digits (rest, s.1) else Wrong
  attr_from s (string raw) rest = string_at opaque types raw (rest, s.1)
  attr_from s (symbol n) rest = symbol_attr_at s
  attr_from s (quoted raw) rest = symbol_attr_at s
  attr_from s (hash name) rest = hash_attr opaque types name s rest
  attr_from s (bang name) rest = type_attr_at opaque types s
  attr_from s _ rest = Wrong

-- an attribute of at most this depth
unfoldable pub attr_at : Bool → ℕ → Parse Typed ℕ
attr_at opaque zero s = Wrong
attr_at opaque (suc depth) s = of_option (next s.0) >>= λ t. attr_from opaque (suc depth) depth (attr_at opaque depth) s t.0 t.1

-- the value of an entry
abbrev pub value_at : Bool → ℕ → Parse Typed ℕ
value_at opaque depth = value_by depth (attr_at opaque depth)
