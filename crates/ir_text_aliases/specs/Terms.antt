-- The end of the attribute or type that is the value of an alias, as far as words, names and brackets decide it. MLIR
-- Language Reference, "Type System" and "Attributes"; Builtin Dialect, "Types" and "Attributes".
use Rattle.std.specs.Prelude.{ℕ, zero, suc, Bool, true, false, ◌&&◌, ◌||◌, ◌==◌, if◌then◌else◌, List, [], ◌∷◌, length, drop, Option, Some, None, Ok, Err}
use Rattle.std.specs.Char.{is_ascii_digit}
use Rattle.ir_text_tokens.specs.declared.refusal.TextRefusal.TheVariants.{BadToken, LeftOut, Unexpected}
use Rattle.ir_text_tokens.specs.Tokens.{Lexeme, mark, integer, float, string, bare, value, label, hash, bang, symbol, quoted, trailing_first, next, skip}
use Rattle.ir_text_tokens.specs.Bodies.{begins, has_dot, is_arrow, refused_at}
use Rattle.ir_text_aliases.specs.Values.{Ends, enclosed, group_end}
use Rattle.ir_text_aliases.specs.Words.{is_distinct, is_element, is_listed, is_lone, is_place_word, is_scalar, is_shaped}

-- one after the other
abbrev pub trailing : Ends → (List ℕ → Ends) → Ends
trailing (Ok rest) more = more rest
trailing (Err fault) more = Err fault

-- by the first token, given the token and the rest of the text
abbrev pub at_token : (List ℕ → Lexeme → List ℕ → Ends) → List ℕ → Option (Lexeme × List ℕ) → Ends
at_token end_from bytes None = refused_at BadToken bytes
at_token end_from bytes (Some t) = end_from bytes t.0 t.1

-- ---- names of dialects, and aliases

abbrev pub begins_digit : List ℕ → Bool
begins_digit [] = false
begins_digit (c ∷ cs) = is_ascii_digit c

-- a name after its sigil, and the angle brackets directly after it; a name of digits is no dialect and no alias
abbrev pub name_end : (all name rest : List ℕ) → Ends
name_end all name rest =
    if begins 60 rest then enclosed 60 62 rest
    else if begins_digit name then refused_at LeftOut all
    else Ok rest

-- ---- types

abbrev pub word_type_end : (all word rest : List ℕ) → Ends
word_type_end all word rest =
    if is_shaped word then enclosed 60 62 (skip rest)
    else if is_scalar word then Ok rest
    else refused_at Unexpected all

abbrev pub type_from : List ℕ → Lexeme → List ℕ → Ends
type_from all (bare word) rest = word_type_end all word rest
type_from all (bang name) rest = name_end all name rest
type_from all (mark m) rest = refused_at Unexpected all
type_from all (integer s) rest = refused_at Unexpected all
type_from all (float s) rest = refused_at Unexpected all
type_from all (string s) rest = refused_at Unexpected all
type_from all (value s) rest = refused_at Unexpected all
type_from all (label s) rest = refused_at Unexpected all
type_from all (hash s) rest = refused_at Unexpected all
type_from all (symbol s) rest = refused_at Unexpected all
type_from all (quoted s) rest = refused_at Unexpected all

-- a type that is no function type
unfoldable pub plain_type_end : List ℕ → Ends
plain_type_end bytes = at_token type_from bytes (next bytes)

-- the results of a function type: a list, or one type
abbrev pub results_end : List ℕ → Ends
results_end bytes = if begins 40 bytes then enclosed 40 41 bytes else plain_type_end bytes

abbrev pub arrow_end : List ℕ → Ends
arrow_end [] = refused_at Unexpected []
arrow_end (c ∷ cs) = if is_arrow c cs then results_end (skip (drop 1 cs)) else refused_at Unexpected (c ∷ cs)

unfoldable pub function_end : List ℕ → Ends
function_end bytes = trailing (enclosed 40 41 bytes) (λ rest. arrow_end (skip rest))

abbrev pub type_end : List ℕ → Ends
type_end bytes = if begins 40 bytes then function_end bytes else plain_type_end bytes

-- ---- the type of an attribute

abbrev pub type_or : Ends → Option (List ℕ) → Ends
type_or other None = other
type_or other (Some rest) = type_end (skip rest)

-- an optional type after a colon; or a required one
unfoldable pub typed_end : List ℕ → Ends
typed_end bytes = type_or (Ok bytes) (trailing_first 58 (skip bytes))

unfoldable pub needed_end : List ℕ → Ends
needed_end bytes = type_or (refused_at Unexpected (skip bytes)) (trailing_first 58 (skip bytes))

-- ---- attributes

abbrev pub number_from : List ℕ → Lexeme → List ℕ → Ends
number_from all (integer s) rest = typed_end rest
number_from all (float s) rest = typed_end rest
number_from all (mark m) rest = refused_at Unexpected all
number_from all (string s) rest = refused_at Unexpected all
number_from all (bare s) rest = refused_at Unexpected all
number_from all (value s) rest = refused_at Unexpected all
number_from all (label s) rest = refused_at Unexpected all
number_from all (hash s) rest = refused_at Unexpected all
number_from all (bang s) rest = refused_at Unexpected all
number_from all (symbol s) rest = refused_at Unexpected all
number_from all (quoted s) rest = refused_at Unexpected all

-- a number after a minus sign
unfoldable pub number_end : List ℕ → Ends
number_end bytes = at_token number_from bytes (next bytes)

-- an alias, or a dialect's attribute with an optional type
abbrev pub hash_end : (all name rest : List ℕ) → Ends
hash_end all name rest = if begins 60 rest || has_dot name then trailing (name_end all name rest) typed_end else name_end all name rest

-- elements have a type; a distinct attribute has a number and another attribute in its brackets
abbrev pub elements_end : List ℕ → Ends
elements_end bytes = trailing (enclosed 60 62 bytes) needed_end

abbrev pub distinct_end : List ℕ → Ends
distinct_end bytes = trailing (enclosed 91 93 bytes) (λ rest. enclosed 60 62 (skip rest))

abbrev pub word_end : (all word rest : List ℕ) → Ends
word_end all word rest =
    if is_lone word then Ok rest
    else if is_element word then elements_end (skip rest)
    else if is_listed word then enclosed 60 62 (skip rest)
    else if is_place_word word then enclosed 40 41 (skip rest)
    else if is_distinct word then distinct_end (skip rest)
    else word_type_end all word rest

-- the symbol that must follow two colons
abbrev pub symbol_from : List ℕ → Lexeme → List ℕ → Ends
symbol_from all (symbol s) rest = Ok rest
symbol_from all (quoted s) rest = Ok rest
symbol_from all (mark m) rest = refused_at Unexpected all
symbol_from all (integer s) rest = refused_at Unexpected all
symbol_from all (float s) rest = refused_at Unexpected all
symbol_from all (string s) rest = refused_at Unexpected all
symbol_from all (bare s) rest = refused_at Unexpected all
symbol_from all (value s) rest = refused_at Unexpected all
symbol_from all (label s) rest = refused_at Unexpected all
symbol_from all (hash s) rest = refused_at Unexpected all
symbol_from all (bang s) rest = refused_at Unexpected all

unfoldable pub symbol_end : List ℕ → Ends
symbol_end bytes = at_token symbol_from bytes (next bytes)

-- the rest of the text after two colons
abbrev pub after_colons : List ℕ → Option (List ℕ)
after_colons [] = None
after_colons (c ∷ []) = None
after_colons (c ∷ d ∷ cs) = if c == 58 && d == 58 then Some cs else None

-- the nested symbols of a reference after the first symbol, at most `most`
abbrev pub symbols_or : Ends → (List ℕ → Ends) → Option (List ℕ) → Ends
symbols_or other more None = other
symbols_or other more (Some rest) = trailing (symbol_end (skip rest)) more

unfoldable pub symbols_end : (headroom : ℕ) → List ℕ → Ends
symbols_end zero bytes = Ok bytes
symbols_end (suc headroom) bytes = symbols_or (Ok bytes) (symbols_end headroom) (after_colons (skip bytes))

abbrev pub attr_from : List ℕ → Lexeme → List ℕ → Ends
attr_from all (integer s) rest = typed_end rest
attr_from all (float s) rest = typed_end rest
attr_from all (string s) rest = typed_end rest
attr_from all (bare word) rest = word_end all word rest
attr_from all (hash name) rest = hash_end all name rest
attr_from all (bang name) rest = name_end all name rest
attr_from all (symbol s) rest = symbols_end (length rest) rest
attr_from all (quoted s) rest = symbols_end (length rest) rest
attr_from all (mark m) rest = refused_at Unexpected all
attr_from all (value s) rest = refused_at Unexpected all
attr_from all (label s) rest = refused_at Unexpected all

unfoldable pub plain_attr_end : List ℕ → Ends
plain_attr_end bytes = at_token attr_from bytes (next bytes)

-- an array, a dictionary, a number after a minus sign, a function type, or an attribute that begins with another
-- token
abbrev pub attr_at : ℕ → List ℕ → Ends
attr_at c cs =
    if c == 91 then group_end (93 ∷ []) 0 cs
    else if c == 123 then group_end (125 ∷ []) 0 cs
    else if c == 45 then number_end (skip cs)
    else if c == 40 then function_end (c ∷ cs)
    else plain_attr_end (c ∷ cs)

abbrev pub attr_end : List ℕ → Ends
attr_end [] = refused_at Unexpected []
attr_end (c ∷ cs) = attr_at c cs

-- ---- values

-- the rest of the text after the value of an alias, which is a type or an attribute
abbrev pub value_end : (of_type : Bool) → List ℕ → Ends
value_end true bytes = type_end bytes
value_end false bytes = attr_end bytes
