-- Definitions of aliases, and bracketed groups. MLIR Language Reference, "Type Aliases" and "Attribute Value
-- Aliases".
use Rattle.std.specs.Prelude.{ℕ, zero, suc, Bool, true, false, ◌&&◌, ◌==◌, if◌then◌else◌, List, [], ◌∷◌, length, drop, Option, Some, None, Result, Ok}
use Rattle.ir_text_tokens.specs.declared.refusal.TextRefusal.{TextRefusal}
use Rattle.ir_text_tokens.specs.declared.refusal.TextRefusal.TheVariants.{BadToken, TooDeep, Unexpected}
use Rattle.ir_text_tokens.specs.declared.fault.Fault.{Fault}
use Rattle.ir_text_tokens.specs.Tokens.{skip, suffix_len}
use Rattle.ir_text_tokens.specs.Bodies.{closer_of, closes_nearest, is_alias, is_opener, most_open, opened, refused_at}
use Rattle.ir_text_aliases.specs.Lexemes.{from_quote, is_open_string, lexeme_len}

-- the rest of the text after an equal sign and blanks
abbrev pub after_equal : List ℕ → Option (List ℕ)
after_equal [] = None
after_equal (c ∷ cs) = if c == 61 then Some (skip cs) else None

-- a definition begins with an alias and an equal sign; the text after the equal sign begins with its value
abbrev pub definition_at : ℕ → List ℕ → Option (List ℕ)
definition_at c cs = if is_alias c cs then after_equal (skip (drop (suffix_len cs) cs)) else None

abbrev pub is_defined : Option (List ℕ) → Bool
is_defined None = false
is_defined (Some bytes) = true

-- ---- brackets

abbrev pub is_first : ℕ → List ℕ → Bool
is_first c [] = false
is_first c (o ∷ os) = c == o

abbrev pub rest_of : List ℕ → List ℕ
rest_of [] = []
rest_of (o ∷ os) = os

-- the stack of expected closing brackets after the byte
abbrev pub coming_after : ℕ → List ℕ → List ℕ
coming_after c coming = if is_first c coming then rest_of coming else opened (closer_of c) coming

-- a bracket that doesn't match the innermost one, or is nested too deep
abbrev pub open_fault : ℕ → List ℕ → Option TextRefusal
open_fault c coming =
    if closes_nearest c then Some Unexpected
    else if is_opener c && length coming == most_open then Some TooDeep
    else None

abbrev pub bracket_fault : ℕ → List ℕ → Option TextRefusal
bracket_fault c coming = if is_first c coming then None else open_fault c coming

-- the refusal of a string that isn't closed, at its quote, or of a bracket
abbrev pub value_fault : ℕ → List ℕ → List ℕ → Option TextRefusal
value_fault c cs coming = if is_open_string c cs then Some BadToken else bracket_fault c coming

-- ---- groups

-- the rest of the text after what was read, or the fault
abbrev pub Ends : Type 0
Ends = Result (List ℕ) Fault

abbrev pub unless : Option TextRefusal → List ℕ → Ends → Ends
unless None bytes found = found
unless (Some refusal) bytes found = refused_at refusal bytes

-- the rest of the text after a group: `coming` is the stack of expected closing brackets, the nearest first, and the
-- next `passed` bytes belong to the lexeme before
unfoldable pub group_end : (coming : List ℕ) (passed : ℕ) (bytes : List ℕ) → Ends
group_end [] n bytes = Ok (drop n bytes)
group_end (o ∷ os) n [] = refused_at Unexpected []
group_end (o ∷ os) (suc n) (c ∷ cs) = group_end (o ∷ os) n cs
group_end (o ∷ os) zero (c ∷ cs) = unless (value_fault c cs (o ∷ os)) (from_quote c cs) (group_end (coming_after c (o ∷ os)) (lexeme_len c cs) cs)

-- the rest of the text after a group in the brackets `first` and `closer`
abbrev pub enclosed : (first closer : ℕ) → List ℕ → Ends
enclosed first closer [] = refused_at Unexpected []
enclosed first closer (c ∷ cs) = if c == first then group_end (closer ∷ []) 0 cs else refused_at Unexpected (c ∷ cs)
