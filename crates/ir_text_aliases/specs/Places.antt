-- Locations, which the expansion removes. MLIR Language Reference, "Operations"; Builtin Dialect, "Location
-- Attributes".
use Rattle.std.specs.Prelude.{ℕ, zero, suc, ◌-◌, Bool, ◌&&◌, ◌||◌, ◌==◌, if◌then◌else◌, List, [], ◌∷◌, length, drop, Option, Some, None, Result, Ok, Err}
use Rattle.ir_text_tokens.specs.declared.refusal.TextRefusal.{TextRefusal}
use Rattle.ir_text_tokens.specs.declared.refusal.TextRefusal.TheVariants.{BadToken, LeftOut, Unexpected}
use Rattle.ir_text_tokens.specs.declared.fault.Fault.{Fault}
use Rattle.ir_text_tokens.specs.Bytes.{is_blank}
use Rattle.ir_text_tokens.specs.Tokens.{skip}
use Rattle.ir_text_tokens.specs.Bodies.{begins, is_plain, is_printable, refused_at}
use Rattle.ir_text_aliases.specs.declared.scan_state.ScanState.{ScanState}
use Rattle.ir_text_aliases.specs.Lexemes.{is_loc, lexeme_len, word_len}
use Rattle.ir_text_aliases.specs.Values.{coming_after, value_fault}
use Rattle.ir_text_aliases.specs.Scanned.{is_arguments, is_ending, is_operations, is_typed}

-- the refusal of a symbol, a comment, a tab, a line break, or a byte outside strings that isn't ASCII
abbrev pub byte_fault : ℕ → List ℕ → Option TextRefusal
byte_fault c cs =
    if is_plain c cs then None
    else if is_printable c || is_blank c then Some LeftOut
    else Some BadToken

-- the first refusal, or else the refusal of a value
abbrev pub or_value : Option TextRefusal → Option TextRefusal → Option TextRefusal
or_value None other = other
or_value (Some refusal) other = Some refusal

abbrev pub place_fault : ℕ → List ℕ → List ℕ → Option TextRefusal
place_fault c cs coming = or_value (byte_fault c cs) (value_fault c cs coming)

abbrev pub unless : Option TextRefusal → List ℕ → Result (List ℕ) Fault → Result (List ℕ) Fault
unless None bytes found = found
unless (Some refusal) bytes found = refused_at refusal bytes

-- the rest of the text after a location, or the fault: `coming` is the stack of expected closing brackets, the
-- nearest first
unfoldable pub place_end : (coming : List ℕ) (passed : ℕ) (bytes : List ℕ) → Result (List ℕ) Fault
place_end [] n bytes = Ok (drop n bytes)
place_end (o ∷ os) n [] = refused_at Unexpected []
place_end (o ∷ os) (suc n) (c ∷ cs) = place_end (o ∷ os) n cs
place_end (o ∷ os) zero (c ∷ cs) = unless (place_fault c cs (o ∷ os)) (c ∷ cs) (place_end (coming_after c (o ∷ os)) (lexeme_len c cs) cs)

-- the rest of the text after a location, given the text from its opening bracket on
abbrev pub located : List ℕ → Result (List ℕ) Fault
located [] = refused_at Unexpected []
located (c ∷ cs) = if c == 40 then place_end (41 ∷ []) 0 cs else refused_at Unexpected (c ∷ cs)

-- the rest of the text after the word `loc` and blanks, given the text after its first byte
abbrev pub trailing_loc : List ℕ → List ℕ
trailing_loc cs = skip (drop (word_len cs) cs)

-- the word `loc` and a bracket, after the type of a block argument or after a function type
abbrev pub goes : ScanState → ℕ → List ℕ → Bool
goes f c cs =
    (is_loc c cs && begins 40 (trailing_loc cs))
    && (is_ending f.last && (is_arguments f.around.holds || (is_operations f.around.holds && is_typed f.stage)))

-- how many more bytes a location has
abbrev pub place_len : Result (List ℕ) Fault → List ℕ → ℕ
place_len (Ok rest) cs = length cs - length rest
place_len (Err fault) cs = 0
