-- The expansion of a text: each alias is replaced by its value, and locations are removed.
use Rattle.std.specs.Prelude.{ℕ, zero, suc, ◌+◌, Bool, ◌&&◌, ◌||◌, nat_le, if◌then◌else◌, List, [], ◌∷◌, ◌++◌, length, Option, Some, None, option_map}
use Rattle.std.specs.Result.{result_err}
use Rattle.ir_text_tokens.specs.declared.refusal.TextRefusal.{TextRefusal}
use Rattle.ir_text_tokens.specs.declared.fault.Fault.{Fault}
use Rattle.ir_text_tokens.specs.Tokens.{suffix_len}
use Rattle.ir_text_tokens.specs.Bodies.{is_alias}
use Rattle.ir_text_aliases.specs.declared.scan_state.Bracket.{Bracket}
use Rattle.ir_text_aliases.specs.declared.scan_state.ScanState.{ScanState}
use Rattle.ir_text_aliases.specs.declared.scan_state.BracketContents.{BracketContents}
use Rattle.ir_text_aliases.specs.declared.mark.Mark.{Mark}
use Rattle.ir_text_aliases.specs.declared.part.TextPart.{TextPart}
use Rattle.ir_text_aliases.specs.Lexemes.{name_of, lexeme_len, lexeme_of}
use Rattle.ir_text_aliases.specs.Scanned.{at_first, trailing_alias, after_place, is_after, is_operations, is_outside, next_scanned, outer_after}
use Rattle.ir_text_aliases.specs.Places.{trailing_loc, goes, located, place_len}
use Rattle.ir_text_aliases.specs.Uses.{Aliases, spelling, use_fault, value_of}
use Rattle.ir_text_aliases.specs.Values.{definition_at, is_defined}

-- ---- one lexeme

-- one step of the expansion: `put` and `marks` are appended, `len` more bytes are read, and `front` and `outer` are
-- the scan state and the enclosing brackets after the step; or the fault
pub record Move : Type 0 where
  pub put : List ℕ
  pub marks : List Mark
  pub len : ℕ
  pub scanned : ScanState
  pub outer : List Bracket
  pub fault : Option Fault

abbrev pub fault_at : List ℕ → TextRefusal → Fault
fault_at bytes refusal = record { refusal = refusal; left = length bytes }

-- a location, which is removed
abbrev pub place_move : ScanState → List Bracket → ℕ → ℕ → List ℕ → Move
place_move f outer len c cs = record {
  put = [];
  marks = record { scanned = len; past = len; left = length (c ∷ cs) } ∷ [];
  len = place_len (located (trailing_loc cs)) cs;
  scanned = after_place f;
  outer = outer;
  fault = result_err (located (trailing_loc cs));
}

-- an alias, which is replaced by its value
abbrev pub alias_move : TextPart → Option (List ℕ) → ScanState → List Bracket → ℕ → ℕ → List ℕ → Move
alias_move p v f outer len c cs = record {
  put = spelling f v;
  marks = record { scanned = len; past = len + length (spelling f v); left = length (c ∷ cs) } ∷ [];
  len = suffix_len cs;
  scanned = trailing_alias f;
  outer = outer;
  fault = option_map (fault_at (c ∷ cs)) (use_fault f v (p.before + len));
}

-- any other lexeme, which is copied
abbrev pub lexeme_move : ScanState → List Bracket → ℕ → List ℕ → Move
lexeme_move f outer c cs = record {
  put = lexeme_of c cs;
  marks = [];
  len = lexeme_len c cs;
  scanned = next_scanned f outer c cs;
  outer = outer_after f outer c;
  fault = None;
}

abbrev pub move : TextPart → List ℕ → Aliases → ScanState → List Bracket → ℕ → ℕ → List ℕ → Move
move p values env f outer len c cs =
    if goes f c cs then place_move f outer len c cs
    else if p.reads && is_alias c cs then alias_move p (value_of values env f (name_of c cs)) f outer len c cs
    else lexeme_move f outer c cs

-- ---- the walk

-- the expanded text with its marks, the text that is left, and the fault there, if there is one
pub record Walked : Type 0 where
  pub text : List ℕ
  pub marks : List Mark
  pub rest : List ℕ
  pub fault : Option Fault

abbrev pub walked : List ℕ → List Mark → List ℕ → Option Fault → Walked
walked out marks rest fault = record { text = out; marks = marks; rest = rest; fault = fault }

-- a definition begins after the last operation
abbrev pub ends_operations : ScanState → ℕ → List ℕ → Bool
ends_operations f c cs = (is_outside f.around.closer && is_operations f.around.holds) && (is_after f.stage && is_defined (definition_at c cs))

abbrev pub stops : TextPart → ScanState → ℕ → List ℕ → Bool
stops p f c cs = nat_le (suc (length cs)) p.left || ends_operations f c cs

abbrev pub unless : Option Fault → List ℕ → List ℕ → List Mark → Walked → Walked
unless None rest out marks on = on
unless (Some fault) rest out marks on = walked out marks rest (Some fault)

-- expands lexeme by lexeme, after the output so far; the next `passed` bytes belong to the lexeme before
unfoldable pub walk : (p : TextPart) (values : List ℕ) (env : Aliases) (f : ScanState) (outer : List Bracket) (passed : ℕ) (bytes out : List ℕ) (marks : List Mark) → Walked
walk p values env f outer n [] out marks = walked out marks [] None
walk p values env f outer (suc n) (c ∷ cs) out marks = walk p values env f outer n cs out marks
walk p values env f outer zero (c ∷ cs) out marks =
    if stops p f c cs then walked out marks (c ∷ cs) None
    else unless (move p values env f outer (length out) c cs).fault (c ∷ cs) out marks
    (walk p values env (move p values env f outer (length out) c cs).scanned (move p values env f outer (length out) c cs).outer (move p values env f outer (length out) c cs).len cs
    (out ++ (move p values env f outer (length out) c cs).put) (marks ++ (move p values env f outer (length out) c cs).marks))

-- a text outside all brackets whose contents are known
abbrev pub walk_text : TextPart → List ℕ → Aliases → BracketContents → List ℕ → List ℕ → List Mark → Walked
walk_text p values env k bytes out marks = walk p values env (at_first k) [] 0 bytes out marks
