-- Bodies: the bracketed text of an opaque type or attribute. MLIR Language Reference, "Dialect Types" and "Dialect
-- Attribute Values".
use Rattle.std.specs.Prelude.{ℕ, zero, suc, ◌-◌, Bool, true, false, not, ◌&&◌, ◌||◌, ◌==◌, nat_le, if◌then◌else◌, List, [], ◌∷◌, length, take, drop, Option, Some, None, Result, Ok, Err}
use Rattle.std.specs.Char.{is_ascii_digit}
use Rattle.ir_text_tokens.specs.declared.refusal.TextRefusal.{TextRefusal}
use Rattle.ir_text_tokens.specs.declared.refusal.TextRefusal.TheVariants.{BadToken, Unexpected, TooDeep, LeftOut}
use Rattle.ir_text_tokens.specs.declared.fault.Fault.{Fault}
use Rattle.ir_text_tokens.specs.Bytes.{is_blank}
use Rattle.ir_text_tokens.specs.Strings.{closing}
use Rattle.ir_text_tokens.specs.Tokens.{skip, suffix_len}

-- the maximum number of nested brackets
abbrev pub most_open : ℕ
most_open = 32

-- the closing bracket for an opening one: `)` for `(`, `]` for `[`, `}` for `{`, `>` for `<`
abbrev pub closer_of : ℕ → Option ℕ
closer_of c =
    if c == 40 then Some 41
    else if c == 91 then Some 93
    else if c == 123 then Some 125
    else if c == 60 then Some 62
    else None

-- a bracket that must close the nearest one; `>` isn't in this class, since it is also part of `>=`
abbrev pub closes_nearest : ℕ → Bool
closes_nearest c = (c == 41 || c == 93) || c == 125

-- whether the first byte is b
abbrev pub begins : ℕ → List ℕ → Bool
begins b [] = false
begins b (c ∷ cs) = c == b

-- ---- the parts of a body

unfoldable pub has_dot : List ℕ → Bool
has_dot [] = false
has_dot (c ∷ cs) = c == 46 || has_dot cs

-- a name that has no dot and doesn't begin with a digit
abbrev pub is_undivided : List ℕ → Bool
is_undivided [] = false
is_undivided (c ∷ cs) = not (is_ascii_digit c) && not (has_dot (c ∷ cs))

-- `#` or `!`, the sigil of an alias or of a dialect's name
abbrev pub is_sign : ℕ → Bool
is_sign c = c == 35 || c == 33

-- an alias: a sigil and an undivided name that no `<` follows; a dialect's name has a dot or a `<`
abbrev pub is_alias : ℕ → List ℕ → Bool
is_alias c cs = is_sign c && (is_undivided (take (suffix_len cs) cs) && not (begins 60 (drop (suffix_len cs) cs)))

-- two slashes at the front
abbrev pub are_slashes : ℕ → List ℕ → Bool
are_slashes c cs = c == 47 && begins 47 cs

abbrev pub is_arrow : ℕ → List ℕ → Bool
is_arrow c cs = c == 45 && begins 62 cs

-- a printable ASCII byte
abbrev pub is_printable : ℕ → Bool
is_printable c = nat_le 32 c && nat_le c 126

-- a byte that a body may have outside strings: printable, but not `@`, which begins a symbol, and not the first of
-- two slashes
abbrev pub is_plain : ℕ → List ℕ → Bool
is_plain c cs = is_printable c && not (c == 64 || are_slashes c cs)

abbrev pub is_closed : Option ℕ → Bool
is_closed None = false
is_closed (Some n) = true

-- why a body can't have the part that begins with the byte, which opens no bracket and doesn't close the nearest one:
-- a bracket that doesn't match, an unclosed string, an alias, a symbol, a comment, a line break, a tab, or a byte
-- that begins nothing
abbrev pub fault_of : ℕ → List ℕ → Option TextRefusal
fault_of c cs =
    if closes_nearest c then Some Unexpected
    else if c == 34 then (if is_closed (closing cs) then None else Some BadToken)
    else if is_alias c cs then Some LeftOut
    else if is_plain c cs then None
    else if is_printable c || is_blank c then Some LeftOut
    else Some BadToken

-- the length of a string with its closing quote, given the length before that quote
abbrev pub string_len : Option ℕ → ℕ
string_len None = 0
string_len (Some n) = suc n

-- how many more bytes belong to the part that begins with the byte: the rest of a string, the name after a sigil, or
-- the `>` of an arrow, which closes nothing
abbrev pub part_len : ℕ → List ℕ → ℕ
part_len c cs =
    if c == 34 then string_len (closing cs)
    else if is_sign c then suffix_len cs
    else if is_arrow c cs then 1
    else 0

-- ---- the scan

abbrev pub refused_at : TextRefusal → List ℕ → Result (List ℕ) Fault
refused_at refusal rest = Err (record { refusal = refusal; left = length rest })

abbrev pub unless : Option TextRefusal → List ℕ → Result (List ℕ) Fault → Result (List ℕ) Fault
unless None bytes found = found
unless (Some refusal) bytes found = refused_at refusal bytes

-- the stack of expected closing brackets after an opening bracket
abbrev pub opened : Option ℕ → List ℕ → List ℕ
opened None open' = open'
opened (Some closer) open' = closer ∷ open'

abbrev pub is_opener : ℕ → Bool
is_opener c = is_closed (closer_of c)

abbrev pub is_fine : Option TextRefusal → Bool
is_fine None = true
is_fine (Some refusal) = false

-- the rest of the text after a body, or the fault: `coming` is the stack of expected closing brackets, the nearest
-- first, and the next `passed` bytes are part of what was already read
unfoldable pub scan : (coming : List ℕ) → (passed : ℕ) → List ℕ → Result (List ℕ) Fault
scan [] n bytes = Ok bytes
scan (o ∷ os) n [] = refused_at Unexpected []
scan (o ∷ os) (suc n) (c ∷ cs) = scan (o ∷ os) n cs
scan (o ∷ os) zero (c ∷ cs) =
    if c == o then scan os 0 cs
    else if is_opener c then (if length (o ∷ os) == most_open then refused_at TooDeep (c ∷ cs) else scan (opened (closer_of c) (o ∷ os)) 0 cs)
    else unless (fault_of c cs) (c ∷ cs) (scan (o ∷ os) (part_len c cs) cs)

abbrev pub trailing_first : Option ℕ → List ℕ → List ℕ → Result (List ℕ) Fault
trailing_first None all tail = refused_at Unexpected all
trailing_first (Some closer) all tail = scan (closer ∷ []) 0 tail

-- the rest of the text after the body whose opening bracket is the first byte, or the fault
abbrev pub scanned : List ℕ → Result (List ℕ) Fault
scanned [] = refused_at Unexpected []
scanned (c ∷ cs) = trailing_first (closer_of c) (c ∷ cs) cs

-- ---- a memref's body

abbrev pub is_none : List ℕ → Bool
is_none [] = true
is_none (o ∷ os) = false

-- whether the body has a comma at nesting depth one before any fault
unfoldable pub comma_ahead : (coming : List ℕ) → (passed : ℕ) → List ℕ → Bool
comma_ahead [] n bytes = false
comma_ahead (o ∷ os) n [] = false
comma_ahead (o ∷ os) (suc n) (c ∷ cs) = comma_ahead (o ∷ os) n cs
comma_ahead (o ∷ os) zero (c ∷ cs) =
    if c == 44 && is_none os then true
    else if c == o then comma_ahead os 0 cs
    else if is_opener c then not (length (o ∷ os) == most_open) && comma_ahead (opened (closer_of c) (o ∷ os)) 0 cs
    else is_fine (fault_of c cs) && comma_ahead (o ∷ os) (part_len c cs) cs

-- a memref is opaque if its body begins with `*` or has a comma at nesting depth one
abbrev pub is_plain_body : List ℕ → Bool
is_plain_body [] = true
is_plain_body (c ∷ cs) = not (c == 60) || not (begins 42 (skip cs) || comma_ahead (62 ∷ []) 0 cs)

-- the text after the word `memref` is parsed as dimensions and an element type
abbrev pub is_plain_memref : List ℕ → Bool
is_plain_memref bytes = is_plain_body (skip bytes)

-- ---- bodies

-- the prefix of the text before the rest, and the rest
abbrev pub parted : List ℕ → Result (List ℕ) Fault → Option (List ℕ × List ℕ)
parted bytes (Ok rest) = Some (take (length bytes - length rest) bytes, rest)
parted bytes (Err fault) = None

-- a body with its brackets, and the rest of the text
abbrev pub body_at : List ℕ → Option (List ℕ × List ℕ)
body_at bytes = parted bytes (scanned bytes)

-- the length of a body
abbrev pub len_of : Option (List ℕ × List ℕ) → Option ℕ
len_of None = None
len_of (Some x) = Some (length x.0)

abbrev pub body_len : List ℕ → Option ℕ
body_len bytes = len_of (body_at bytes)
