-- A string is parsed back, whatever text follows it.
use Rattle.std.proofs.Common.{◌≡◌, ℕ, zero, suc, ◌+◌, ◌<◌, ◌≤◌, Bool, true, false, cond, List, [], ◌∷◌, ◌++◌, length, take, drop, Option, Some, None, refl, sym, ap, ◌∙◌, arith}
use Rattle.std.specs.Prelude.{◌==◌, option_map}
use Rattle.std.proofs.lemmas.List.{take-append-le, drop-append-le}
use Rattle.std.proofs.lemmas.Option.{some_pair_parts}
use Rattle.ir_text_tokens.specs.Bytes.{is_hex, is_line_end}
use Rattle.ir_text_tokens.specs.Strings.{closing, closing_escape, closing_digit, is_short}
use Rattle.ir_text_tokens.specs.Tokens.{Lexeme, string, next, string_at}
use Rattle.ir_text_tokens.proofs.Facts.{string_token}
use Rattle.ir_text_attributes.specs.OpaqueAttributes.{quoted_text}
use Rattle.ir_text_tokens.specs.Bodies.{string_len}
use Rattle.ir_text_tokens.proofs.KeptBodies.{string_within}

-- an index that is found within a prefix is found there again
abbrev Again : List ℕ → Option ℕ → Option ℕ → Type 0
Again w old new = (n : ℕ) → old ≡ Some n → n < length w → new ≡ Some n

again_if : (w : List ℕ) (t : Bool) (a b c d : Option ℕ) → Again w a c → Again w b d → Again w (cond t a b) (cond t c d)
again_if w true a b c d f g = f
again_if w false a b c d f g = g

later : (c : ℕ) (w : List ℕ) (old new : Option ℕ) → Again w old new → Again (c ∷ w) (option_map suc old) (option_map suc new)
later c w None new h n e lt = absurd (cc)
later c w (Some m) new h zero e lt = absurd (cc)
later c w (Some m) new h (suc n) e lt = ap (option_map suc) (h n (ap less e) (omega (arith, lt)))
  where
    less : Option ℕ → Option ℕ
    less None = None
    less (Some zero) = None
    less (Some (suc n)) = Some n

here : (w : List ℕ) (o : Option ℕ) → Again w o o
here w o n e lt = e

mutual
  unfolding closing

  closing_again : (w r rest : List ℕ) → Again w (closing (w ++ r)) (closing (w ++ rest))
  closing_again [] r rest = λ n e lt. absurd (omega (arith, lt))
  closing_again (c ∷ w) r rest =
      again_if (c ∷ w) (c == 34) _ _ _ _ (here (c ∷ w) (Some 0))
      (again_if (c ∷ w) (c == 92) _ _ _ _ (later c w (closing_escape (w ++ r)) (closing_escape (w ++ rest)) (escape_again w r rest))
      (again_if (c ∷ w) (is_line_end c) _ _ _ _ (here (c ∷ w) None) (later c w (closing (w ++ r)) (closing (w ++ rest)) (closing_again w r rest))))

  escape_again : (w r rest : List ℕ) → Again w (closing_escape (w ++ r)) (closing_escape (w ++ rest))
  escape_again [] r rest = λ n e lt. absurd (omega (arith, lt))
  escape_again (c ∷ w) r rest =
      again_if (c ∷ w) (is_short c) _ _ _ _ (later c w (closing (w ++ r)) (closing (w ++ rest)) (closing_again w r rest))
      (again_if (c ∷ w) (is_hex c) _ _ _ _ (later c w (closing_digit (w ++ r)) (closing_digit (w ++ rest)) (digit_again w r rest)) (here (c ∷ w) None))

  digit_again : (w r rest : List ℕ) → Again w (closing_digit (w ++ r)) (closing_digit (w ++ rest))
  digit_again [] r rest = λ n e lt. absurd (omega (arith, lt))
  digit_again (c ∷ w) r rest =
      again_if (c ∷ w) (is_hex c) _ _ _ _ (later c w (closing (w ++ r)) (closing (w ++ rest)) (closing_again w r rest)) (here (c ∷ w) None)

-- ---- strings after their opening quote

abbrev parts : List ℕ → Option ℕ → Option (List ℕ × List ℕ)
parts bs o = option_map (λ n. (take n bs, drop (n + 1) bs)) o

abbrev named : Option (List ℕ × List ℕ) → Option (Lexeme × List ℕ)
named o = option_map (λ (x : List ℕ × List ℕ). (string x.0, x.1)) o

abbrev raw_of : Lexeme → List ℕ
raw_of (string raw) = raw
raw_of _ = []

again : (bs raw back : List ℕ) (o : Option ℕ) → closing bs ≡ o → named (parts bs o) ≡ Some (string raw, []) → string_at string (bs ++ back) ≡ Some (string raw, back)
again bs raw back None k e = absurd cc
again bs raw back (Some n) k e =
    let p = some_pair_parts (string (take n bs)) (string raw) (drop (n + 1) bs) [] e in
    let within : suc n ≤ length bs = let w : string_len (closing bs) ≤ length bs = string_within bs in rw k at w in
    let found : closing (bs ++ back) ≡ Some n = closing_again bs [] back n (ap closing (append_nil bs) ∙ k) (omega (arith, within)) in
    let preceding : take n (bs ++ back) ≡ raw = take-append-le n bs back (omega (arith, within)) ∙ ap raw_of p.0 in
    let left : drop (n + 1) (bs ++ back) ≡ back = drop-append-le (n + 1) bs back (omega (arith, within)) ∙ ap (λ l. l ++ back) p.1 in
    ap (λ o. named (parts (bs ++ back) o)) found ∙ (λ i. Some (string (preceding i), left i))
  where
    append_nil : (l : List ℕ) → l ++ [] ≡ l
    append_nil [] = refl
    append_nil (c ∷ cs) = ap (λ l. c ∷ l) (append_nil cs)

pub string_again : (raw back : List ℕ) → next (quoted_text raw) ≡ Some (string raw, []) → next (quoted_text raw ++ back) ≡ Some (string raw, back)
string_again raw back e =
    let bs = raw ++ 34 ∷ [] in
    string_token (bs ++ back) ∙ again bs raw back (closing bs) refl (sym (string_token bs) ∙ e)
