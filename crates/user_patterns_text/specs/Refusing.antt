-- The outcome of reading: a value, or the first refusal from left to right with how many bytes of the text are left
-- at the error.
use Rattle.std.specs.Prelude.{◌≡◌, ℕ, suc, Bool, ◌&&◌, ◌==◌, if◌then◌else◌, List, [], ◌∷◌, length, Option, Some, None, Result, Ok, Err}
use Rattle.ir_text_tokens.specs.declared.fault.Fault.{Fault}
use Rattle.ir_text_tokens.specs.declared.refusal.TextRefusal.{TextRefusal}
use Rattle.ir_text_tokens.specs.declared.refusal.TextRefusal.TheVariants as refusal
use Rattle.ir_text_tokens.specs.declared.token.Mark.{Mark}
use Rattle.ir_text_tokens.specs.Bytes.{is_hex, is_line_end}
use Rattle.ir_text_tokens.specs.Strings.{is_short}
use Rattle.ir_text_tokens.specs.Tokens.{Lexeme, next, skip}
use Rattle.ir_text_types.specs.Marks.{after}
use Rattle.ir_text_types.specs.Typed.{Text}
use Rattle.user_patterns_text.specs.declared.error.PatternError.{PatternError}
use Rattle.user_patterns_text.specs.declared.error.PatternError.TheVariants as errors

abbrev pub Outcome : Type 0 → Type 0
Outcome A = Result A Fault

infixl 10 ◌>>=◌
abbrev pub ◌>>=◌ : {A B : Type 0} → Outcome A → (A → Outcome B) → Outcome B
(Ok x) >>= f = f x
(Err e) >>= f = Err e

-- the returned value, mapped by `view`, equals the outcome of reading, unless memory ran out
abbrev pub Fails : {Y : Type 0} → PatternError → Outcome Y → Type 0
Fails errors.Memory read = Unit {0}
Fails (errors.Refused f) read = read ≡ Err f

abbrev pub Returns : {X Y : Type 0} → (X → Y) → Result X PatternError → Outcome Y → Type 0
Returns view (Ok x) read = read ≡ Ok (view x)
Returns view (Err e) read = Fails e read

abbrev pub fault : TextRefusal → ℕ → Fault
fault r left = record { refusal = r; left = left }

abbrev pub refused : {A : Type 0} → TextRefusal → ℕ → Outcome A
refused r left = Err (fault r left)

-- ---- tokens

-- how many bytes are left at the first byte that isn't blank
abbrev pub begins : Text → ℕ
begins s = length (skip s)

-- how many bytes are left at the error of a string, given the text after its opening quote: at the backslash of a bad
-- escape, or `quote` if the string isn't closed
unfoldable mutual
  pub string_left : ℕ → Text → ℕ
  string_left quote [] = quote
  string_left quote (c ∷ cs) =
      if c == 92 then escape_left quote (suc (length cs)) cs
      else if is_line_end c then quote
      else string_left quote cs

  -- the rest of the string after a backslash
  pub escape_left : ℕ → ℕ → Text → ℕ
  escape_left quote left [] = left
  escape_left quote left (c ∷ cs) =
      if is_short c then string_left quote cs
      else if is_hex c then digit_left quote left cs
      else left

  -- the rest of the string after a backslash and a hexadecimal digit
  pub digit_left : ℕ → ℕ → Text → ℕ
  digit_left quote left [] = left
  digit_left quote left (c ∷ cs) = if is_hex c then string_left quote cs else left

-- the same, given the rest of the text after the escape, if there is an escape
abbrev pub escape_from : ℕ → ℕ → Option Text → ℕ
escape_from quote left (Some rest) = string_left quote rest
escape_from quote left None = left

abbrev pub symbol_left : ℕ → Text → ℕ
symbol_left at [] = at
symbol_left at (c ∷ cs) = if c == 34 then string_left (suc (length cs)) cs else at

-- how many bytes are left at the error, given a text whose first byte isn't blank and begins no token
unfoldable pub bad_at : Text → ℕ
bad_at [] = 0
bad_at (c ∷ cs) =
    if c == 34 then string_left (suc (length cs)) cs
    else if c == 64 then symbol_left (suc (length cs)) cs
    else suc (length cs)

abbrev pub bad_left : Text → ℕ
bad_left s = bad_at (skip s)

abbrev pub token_from : Text → Option (Lexeme × Text) → Outcome (Lexeme × Text)
token_from s (Some t) = Ok t
token_from s None = refused refusal.BadToken (bad_left s)

-- the next token
unfoldable pub token_at : Text → Outcome (Lexeme × Text)
token_at s = token_from s (next s)

abbrev pub wrong_from : TextRefusal → Text → Option (Lexeme × Text) → Fault
wrong_from r s (Some t) = fault r (begins s)
wrong_from r s None = fault refusal.BadToken (bad_left s)

-- the refusal of the next token, which is `BadToken` if no token begins there
unfoldable pub wrong : TextRefusal → Text → Fault
wrong r s = wrong_from r s (next s)

abbrev pub after_from : Text → Option Text → Outcome Text
after_from s (Some rest) = Ok rest
after_from s None = Err (wrong refusal.Unexpected s)

-- the rest of the text after a mark, which must be the next token
unfoldable pub trailing : Mark → Text → Outcome Text
trailing m s = after_from s (after m s)
