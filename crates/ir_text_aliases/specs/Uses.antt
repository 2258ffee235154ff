-- The text that replaces an alias.
use Rattle.std.specs.Prelude.{ℕ, suc, ◌+◌, ◌-◌, Bool, true, false, not, ◌&&◌, ◌==◌, nat_lt, if◌then◌else◌, List, [], ◌∷◌, ◌++◌, length, take, drop, reverse, Option, Some, None, option_map}
use Rattle.std.specs.List.{prefix_len}
use Rattle.ir_text_tokens.specs.declared.refusal.TextRefusal.{TextRefusal}
use Rattle.ir_text_tokens.specs.declared.refusal.TextRefusal.TheVariants.{UnknownValue, Unexpected, TooMany}
use Rattle.ir_text_tokens.specs.Limits.{most_bytes}
use Rattle.ir_text_tokens.specs.Scopes.{Binding, find}
use Rattle.ir_text_tokens.specs.Bodies.{begins}
use Rattle.ir_text_aliases.specs.declared.scan_state.ScanState.{ScanState}
use Rattle.ir_text_aliases.specs.Lexemes.{is_loc}
use Rattle.ir_text_aliases.specs.Scanned.{is_minus, is_place}

-- the known aliases, each with the start and the end of its value in the concatenation of all values
abbrev pub Aliases : Type 0
Aliases = List (Binding (ℕ × ℕ))

abbrev pub value_at : List ℕ → ℕ × ℕ → List ℕ
value_at values r = take (r.1 - r.0) (drop r.0 values)

-- ---- within a location

-- the value begins with the word `loc`
abbrev pub begins_loc : List ℕ → Bool
begins_loc [] = false
begins_loc (c ∷ cs) = is_loc c cs

-- a location: the value ends with `)`
abbrev pub is_location : List ℕ → Bool
is_location v = begins_loc v && begins 41 (reverse v)

-- the number of bytes before the first opening bracket
abbrev pub bracket_len : List ℕ → ℕ
bracket_len v = prefix_len (λ c. not (c == 40)) v

-- the text between the first opening bracket and the last closing bracket
abbrev pub inside : List ℕ → List ℕ
inside v = take (length v - suc (suc (bracket_len v))) (drop (suc (bracket_len v)) v)

abbrev pub bared : Bool → List ℕ → List ℕ
bared true v = if is_location v then inside v else v
bared false v = v

-- ---- the value in place of the alias

-- the value of an alias, without its `loc( )` if it is a location inside another one
abbrev pub value_of : List ℕ → Aliases → ScanState → List ℕ → Option (List ℕ)
value_of values env f name = option_map (λ r. bared (is_place f.around.holds) (value_at values r)) (find name env)

-- a blank, unless the value can't be read as a part of the token before it
abbrev pub gap_of : Bool → List ℕ
gap_of true = []
gap_of false = 32 ∷ []

abbrev pub spelling : ScanState → Option (List ℕ) → List ℕ
spelling f None = []
spelling f (Some v) = gap_of f.apart ++ v

-- why an alias can't be replaced after `len` bytes of output: the alias is unknown, or follows a minus sign, or its
-- value makes the text too long
abbrev pub use_fault : ScanState → Option (List ℕ) → ℕ → Option TextRefusal
use_fault f None len = Some UnknownValue
use_fault f (Some v) len =
    if is_minus f.last then Some Unexpected
    else if nat_lt most_bytes (len + length (gap_of f.apart ++ v)) then Some TooMany
    else None
