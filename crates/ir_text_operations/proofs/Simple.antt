-- An operand without an index.
use Rattle.std.proofs.Common.{◌≡◌, ◌∙◌, ℕ, Bool, true, false, cond, List, [], ◌∷◌, drop, Option, Some, None, refl, sym, ap}
use Rattle.std.specs.Prelude.{option_map, ◌==◌, slice_get}
use Rattle.std.specs.Char.{is_ascii_digit}
use Rattle.ir_text_tokens.specs.declared.token.Mark.{Mark}
use Rattle.ir_text_tokens.specs.declared.token.Mark.TheVariants.{Colon, DoubleColon, Minus, Arrow}
use Rattle.ir_text_tokens.specs.Bytes.{is_letter}
use Rattle.ir_text_tokens.specs.Tokens.{Lexeme, mark, string, value, label, hash, bang, symbol, quoted, skip, next, first_token, token_at, sign_at, symbol_at, mark_at, mark_of, longer, name_parts, string_parts, number_at, hex_len, digits_len, fraction_len, trailing_first}
use Rattle.ir_text_types.specs.Outcomes.{Outcome, Read, ◌>>=◌, of_option}
use Rattle.ir_text_names.specs.declared.bound.TypedValue.{TypedValue}
use Rattle.ir_text_operations.specs.PrecedingReading.{place_of, place_from, place_at, first_at, member_at}

module _ (bytes : List ℕ) where
  -- the token is no index of a value
  abbrev Simple : Option (Lexeme × List ℕ) → Type 0
  Simple o = place_from bytes o ≡ Read (0, bytes)

  plain_if : (t : Bool) (a c : Option (Lexeme × List ℕ)) → Simple a → Simple c → Simple (cond t a c)
  plain_if true a c f g = f
  plain_if false a c f g = g

  plain_made : (make : List ℕ → Lexeme) → ((s rest : List ℕ) → place_of bytes (make s) rest ≡ Read (0, bytes)) → (o : Option (List ℕ × List ℕ)) → Simple (option_map (λ x. (make x.0, x.1)) o)
  plain_made make h None = refl
  plain_made make h (Some x) = h x.0 x.1

  plain_number : (cs : List ℕ) → Simple (number_at cs)
  unfolding number_at
  plain_number cs = plain_if (hex_len cs == 0) _ _ (plain_if (fraction_len (drop (digits_len cs) cs) == 0) _ _ refl refl) refl

  plain_symbol : (cs : List ℕ) → Simple (symbol_at cs)
  unfolding symbol_at
  plain_symbol [] = refl
  plain_symbol (c ∷ cs) = plain_if (c == 34) _ _ (plain_made quoted (λ s rest. refl) (string_parts cs)) (plain_made symbol (λ s rest. refl) (name_parts (c ∷ cs)))

  plain_longer : (c : ℕ) (long short : Mark) (cs : List ℕ) → Simple (longer c long short cs)
  plain_longer c long short [] = refl
  plain_longer c long short (b ∷ cs) = plain_if (b == c) _ _ refl refl

  plain_of : (cs : List ℕ) (o : Option Mark) → Simple (option_map (λ m. (mark m, cs)) o)
  plain_of cs None = refl
  plain_of cs (Some m) = refl

  plain_mark : (c : ℕ) (cs : List ℕ) → Simple (mark_at c cs)
  plain_mark c cs = plain_if (c == 58) _ _ (plain_longer 58 DoubleColon Colon cs) (plain_if (c == 45) _ _ (plain_longer 62 Arrow Minus cs) (plain_of cs (mark_of c)))

  not_hash : (t : Bool) (a c : Option (Lexeme × List ℕ)) → t ≡ false → Simple c → Simple (cond t a c)
  not_hash true a c e g = absurd (cc)
  not_hash false a c e g = g

  plain_sign : (c : ℕ) (cs : List ℕ) → (c == 35) ≡ false → Simple (sign_at c cs)
  plain_sign c cs e =
      plain_if (c == 34) _ _ (plain_made string (λ s rest. refl) (string_parts cs))
      (plain_if (c == 37) _ _ (plain_made value (λ s rest. refl) (name_parts cs))
      (plain_if (c == 94) _ _ (plain_made label (λ s rest. refl) (name_parts cs))
      (not_hash (c == 35) _ _ e
      (plain_if (c == 33) _ _ (plain_made bang (λ s rest. refl) (name_parts cs))
      (plain_if (c == 64) _ _ (plain_symbol cs) (plain_mark c cs))))))

  plain_token : (c : ℕ) (cs : List ℕ) → (c == 35) ≡ false → Simple (token_at c cs)
  plain_token c cs e = plain_if (is_ascii_digit c) _ _ (plain_number (c ∷ cs)) (plain_if (is_letter c) _ _ refl (plain_sign c cs e))

  none_after : (t : Bool) (cs : List ℕ) → cond t (Some cs) None ≡ None → t ≡ false
  none_after true cs e = absurd (cc)
  none_after false cs e = refl

  plain_first : (cs : List ℕ) → trailing_first 35 cs ≡ None → Simple (first_token cs)
  plain_first [] e = refl
  plain_first (c ∷ cs) e = plain_token c cs (none_after (c == 35) cs e)

  plain_place : trailing_first 35 (skip bytes) ≡ None → place_at bytes ≡ Read (0, bytes)
  unfolding place_at next
  plain_place e = plain_first (skip bytes) e

-- if no hash sign follows, the operand is the first value
pub first_member : (pack : List TypedValue) (bytes : List ℕ) → trailing_first 35 (skip bytes) ≡ None → member_at pack bytes ≡ first_at pack bytes
unfolding member_at
first_member pack bytes e = ap (λ o. o >>= λ k. of_option (slice_get pack k.0) >>= λ b. Read (b, k.1)) (plain_place bytes e)
