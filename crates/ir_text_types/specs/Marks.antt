-- Punctuation marks that are expected next or are optional.
use Rattle.std.specs.Prelude.{ℕ, Bool, true, false, ◌==◌, if◌then◌else◌, List, Option, Some, None, option_and_then}
use Rattle.ir_text_tokens.specs.declared.token.Mark.{Mark}
use Rattle.ir_text_tokens.specs.declared.token.Mark.TheVariants.{OpenRound, CloseRound, OpenCurly, CloseCurly, OpenSquare, CloseSquare, Less, Greater, Comma, Equal, Colon, DoubleColon, Minus, Arrow, Question, Star, End}
use Rattle.ir_text_tokens.specs.Tokens.{Lexeme, mark, integer, float, string, bare, value, label, hash, bang, symbol, quoted, next}

-- a number for each mark: its byte, if it has one byte
abbrev pub mark_code : Mark → ℕ
mark_code OpenRound = 40
mark_code CloseRound = 41
mark_code OpenCurly = 123
mark_code CloseCurly = 125
mark_code OpenSquare = 91
mark_code CloseSquare = 93
mark_code Less = 60
mark_code Greater = 62
mark_code Comma = 44
mark_code Equal = 61
mark_code Colon = 58
mark_code DoubleColon = 2
mark_code Minus = 45
mark_code Arrow = 1
mark_code Question = 63
mark_code Star = 42
mark_code End = 0

-- whether the mark is one byte that begins no longer mark
abbrev pub is_single : Mark → Bool
is_single OpenRound = true
is_single CloseRound = true
is_single OpenCurly = true
is_single CloseCurly = true
is_single OpenSquare = true
is_single CloseSquare = true
is_single Less = true
is_single Greater = true
is_single Comma = true
is_single Equal = true
is_single Colon = false
is_single DoubleColon = false
is_single Minus = false
is_single Arrow = false
is_single Question = true
is_single Star = true
is_single End = false

abbrev pub is_mark : Mark → Lexeme → Bool
is_mark m (mark k) = mark_code k == mark_code m
is_mark m (integer s) = false
is_mark m (float s) = false
is_mark m (string s) = false
is_mark m (bare s) = false
is_mark m (value s) = false
is_mark m (label s) = false
is_mark m (hash s) = false
is_mark m (bang s) = false
is_mark m (symbol s) = false
is_mark m (quoted s) = false

-- the rest of the text after the mark, if the mark is the next token
unfoldable pub after : Mark → List ℕ → Option (List ℕ)
after m bytes = option_and_then (λ t. if is_mark m t.0 then Some t.1 else None) (next bytes)
