-- A token that is read is a prefix of the text.
use Rattle.std.proofs.Common.{◌≡◌, ℕ, zero, suc, ◌+◌, Bool, true, false, cond, List, [], ◌∷◌, ◌++◌, take, drop, Option, Some, None, refl, sym, ap, ◌∙◌, append_assoc, arith}
use Rattle.std.specs.Prelude.{option_map, ◌==◌}
use Rattle.std.proofs.lemmas.Bool.{eqb-true}
use Rattle.std.proofs.lemmas.Option.{some_pair_parts}
use Rattle.std.specs.List.{prefix_len}
use Rattle.std.specs.Char.{is_ascii_digit}
use Rattle.ir_text_tokens.specs.declared.token.Mark.{Mark}
use Rattle.ir_text_tokens.specs.declared.token.Mark.TheVariants.{OpenRound, CloseRound, OpenCurly, CloseCurly, OpenSquare, CloseSquare, Less, Greater, Comma, Equal, Colon, DoubleColon, Minus, Arrow, Question, Star}
use Rattle.ir_text_tokens.specs.Bytes.{is_hex, is_letter, is_line_end, is_word}
use Rattle.ir_text_tokens.specs.Strings.{closing, closing_escape, closing_digit, is_short}
use Rattle.ir_text_tokens.specs.Tokens.{Lexeme, mark, string, value, label, hash, bang, symbol, quoted, longer, mark_of, mark_at, skip, next, first_token, token_at, sign_at, symbol_at, name_at, number_at, string_at, suffix_len, hex_len, digits_len, fraction_len}
use Rattle.ir_text_tokens.specs.Printing.{lexeme_text, mark_text}

-- the text is the token that was read, followed by the rest
abbrev Preceding : List ℕ → Option (Lexeme × List ℕ) → Type 0
Preceding bytes None = Unit {0}
Preceding bytes (Some x) = bytes ≡ lexeme_text x.0 ++ x.1

preceding_if : (bytes : List ℕ) (t : Bool) (a c : Option (Lexeme × List ℕ)) → (t ≡ true → Preceding bytes a) → (t ≡ false → Preceding bytes c) → Preceding bytes (cond t a c)
preceding_if bytes true a c f g = f refl
preceding_if bytes false a c f g = g refl

parts : (n : ℕ) (bytes : List ℕ) → bytes ≡ take n bytes ++ drop n bytes
parts zero bytes = refl
parts (suc n) [] = refl
parts (suc n) (c ∷ cs) = ap (λ l. c ∷ l) (parts n cs)

number_preceding : (bytes : List ℕ) → Preceding bytes (number_at bytes)
unfolding number_at
number_preceding bytes =
    preceding_if bytes (hex_len bytes == 0) _ _
    (λ _. preceding_if bytes (fraction_len (drop (digits_len bytes) bytes) == 0) _ _ (λ _. parts (digits_len bytes) bytes) (λ _. parts (digits_len bytes + fraction_len (drop (digits_len bytes) bytes)) bytes))
    (λ _. parts (hex_len bytes) bytes)

-- ---- strings

-- there is a quote at the index
abbrev Closes : List ℕ → Option ℕ → Type 0
Closes bytes None = Unit {0}
Closes bytes (Some n) = bytes ≡ take n bytes ++ 34 ∷ drop (n + 1) bytes

closes_if : (bytes : List ℕ) (t : Bool) (a c : Option ℕ) → (t ≡ true → Closes bytes a) → (t ≡ false → Closes bytes c) → Closes bytes (cond t a c)
closes_if bytes true a c f g = f refl
closes_if bytes false a c f g = g refl

later : (c : ℕ) (cs : List ℕ) (o : Option ℕ) → Closes cs o → Closes (c ∷ cs) (option_map suc o)
later c cs None h = tt
later c cs (Some n) h = let e : suc n + 1 ≡ suc (n + 1) = omega arith in rw e (ap (λ l. c ∷ l) h)

mutual
  unfolding closing

  closes : (bytes : List ℕ) → Closes bytes (closing bytes)
  closes [] = tt
  closes (c ∷ cs) =
      closes_if (c ∷ cs) (c == 34) _ _ (λ e. ap (λ d. d ∷ cs) (eqb-true c 34 e))
      (λ _. closes_if (c ∷ cs) (c == 92) _ _ (λ _. later c cs (closing_escape cs) (closes_escape cs))
      (λ _. closes_if (c ∷ cs) (is_line_end c) _ _ (λ _. tt) (λ _. later c cs (closing cs) (closes cs))))

  closes_escape : (bytes : List ℕ) → Closes bytes (closing_escape bytes)
  closes_escape [] = tt
  closes_escape (c ∷ cs) =
      closes_if (c ∷ cs) (is_short c) _ _ (λ _. later c cs (closing cs) (closes cs))
      (λ _. closes_if (c ∷ cs) (is_hex c) _ _ (λ _. later c cs (closing_digit cs) (closes_digit cs)) (λ _. tt))

  closes_digit : (bytes : List ℕ) → Closes bytes (closing_digit bytes)
  closes_digit [] = tt
  closes_digit (c ∷ cs) = closes_if (c ∷ cs) (is_hex c) _ _ (λ _. later c cs (closing cs) (closes cs)) (λ _. tt)

-- a string after its opening quote
string_preceding : (bs : List ℕ) → Preceding (34 ∷ bs) (string_at string bs)
string_preceding bs = from (closing bs) (closes bs)
  where
    from : (o : Option ℕ) → Closes bs o → Preceding (34 ∷ bs) (option_map (λ (x : List ℕ × List ℕ). (string x.0, x.1)) (option_map (λ n. (take n bs, drop (n + 1) bs)) o))
    from None h = tt
    from (Some n) h = ap (λ l. 34 ∷ l) (h ∙ sym (append_assoc (take n bs) (34 ∷ []) (drop (n + 1) bs)))

quoted_preceding : (bs : List ℕ) → Preceding (64 ∷ 34 ∷ bs) (string_at quoted bs)
quoted_preceding bs = from (closing bs) (closes bs)
  where
    from : (o : Option ℕ) → Closes bs o → Preceding (64 ∷ 34 ∷ bs) (option_map (λ (x : List ℕ × List ℕ). (quoted x.0, x.1)) (option_map (λ n. (take n bs, drop (n + 1) bs)) o))
    from None h = tt
    from (Some n) h = ap (λ l. 64 ∷ 34 ∷ l) (h ∙ sym (append_assoc (take n bs) (34 ∷ []) (drop (n + 1) bs)))

-- ---- names

name_preceding : (make : List ℕ → Lexeme) (b : ℕ) (bs : List ℕ) → ((w : List ℕ) → lexeme_text (make w) ≡ b ∷ w) → Preceding (b ∷ bs) (name_at make bs)
name_preceding make b bs h = from (suffix_len bs == 0) (suffix_len bs)
  where
    from : (t : Bool) (n : ℕ) → Preceding (b ∷ bs) (option_map (λ (x : List ℕ × List ℕ). (make x.0, x.1)) (cond t None (Some (take n bs, drop n bs))))
    from true n = tt
    from false n = rw (h (take n bs)) (ap (λ l. b ∷ l) (parts n bs))

symbol_preceding : (bs : List ℕ) → Preceding (64 ∷ bs) (symbol_at bs)
unfolding symbol_at
symbol_preceding [] = tt
symbol_preceding (c ∷ cs) =
    preceding_if (64 ∷ c ∷ cs) (c == 34) _ _ (λ e. rw (eqb-true c 34 e) (quoted_preceding cs)) (λ _. name_preceding symbol 64 (c ∷ cs) (λ w. refl))

-- ---- marks

longer_preceding : (b c : ℕ) (long short : Mark) (bs : List ℕ) → mark_text short ≡ b ∷ [] → mark_text long ≡ b ∷ c ∷ [] → Preceding (b ∷ bs) (longer c long short bs)
longer_preceding b c long short [] e f = rw e refl
longer_preceding b c long short (d ∷ ds) e f =
    preceding_if (b ∷ d ∷ ds) (d == c) _ _ (λ h. rw (eqb-true d c h, f) refl) (λ _. rw e refl)

-- a mark of one byte is printed as that byte
abbrev IsOf : ℕ → Option Mark → Type 0
IsOf b None = Unit {0}
IsOf b (Some m) = mark_text m ≡ b ∷ []

of_if : (b k : ℕ) (m : Mark) (o : Option Mark) → mark_text m ≡ k ∷ [] → IsOf b o → IsOf b (cond (b == k) (Some m) o)
of_if b k m o e h = choose (b == k) refl
  where
    choose : (t : Bool) → (b == k) ≡ t → IsOf b (cond t (Some m) o)
    choose true f = e ∙ ap (λ c. c ∷ []) (sym (eqb-true b k f))
    choose false f = h

mark_is : (b : ℕ) → IsOf b (mark_of b)
mark_is b =
    of_if b 40 OpenRound _ refl (of_if b 41 CloseRound _ refl (of_if b 123 OpenCurly _ refl (of_if b 125 CloseCurly _ refl
    (of_if b 91 OpenSquare _ refl (of_if b 93 CloseSquare _ refl (of_if b 60 Less _ refl (of_if b 62 Greater _ refl
    (of_if b 44 Comma _ refl (of_if b 61 Equal _ refl (of_if b 63 Question _ refl (of_if b 42 Star None refl tt)))))))))))

mark_preceding : (b : ℕ) (bs : List ℕ) → Preceding (b ∷ bs) (mark_at b bs)
mark_preceding b bs =
    preceding_if (b ∷ bs) (b == 58) _ _ (λ e. rw (eqb-true b 58 e) (longer_preceding 58 58 DoubleColon Colon bs refl refl))
    (λ _. preceding_if (b ∷ bs) (b == 45) _ _ (λ e. rw (eqb-true b 45 e) (longer_preceding 45 62 Arrow Minus bs refl refl))
    (λ _. from (mark_of b) (mark_is b)))
  where
    from : (o : Option Mark) → IsOf b o → Preceding (b ∷ bs) (option_map (λ m. (mark m, bs)) o)
    from None h = tt
    from (Some m) h = rw h refl

-- ---- all

sign_preceding : (b : ℕ) (bs : List ℕ) → Preceding (b ∷ bs) (sign_at b bs)
sign_preceding b bs =
    preceding_if (b ∷ bs) (b == 34) _ _ (λ e. rw (eqb-true b 34 e) (string_preceding bs))
    (λ _. preceding_if (b ∷ bs) (b == 37) _ _ (λ e. rw (eqb-true b 37 e) (name_preceding value 37 bs (λ w. refl)))
    (λ _. preceding_if (b ∷ bs) (b == 94) _ _ (λ e. rw (eqb-true b 94 e) (name_preceding label 94 bs (λ w. refl)))
    (λ _. preceding_if (b ∷ bs) (b == 35) _ _ (λ e. rw (eqb-true b 35 e) (name_preceding hash 35 bs (λ w. refl)))
    (λ _. preceding_if (b ∷ bs) (b == 33) _ _ (λ e. rw (eqb-true b 33 e) (name_preceding bang 33 bs (λ w. refl)))
    (λ _. preceding_if (b ∷ bs) (b == 64) _ _ (λ e. rw (eqb-true b 64 e) (symbol_preceding bs)) (λ _. mark_preceding b bs))))))

token_preceding : (b : ℕ) (bs : List ℕ) → Preceding (b ∷ bs) (token_at b bs)
token_preceding b bs =
    preceding_if (b ∷ bs) (is_ascii_digit b) _ _ (λ _. number_preceding (b ∷ bs))
    (λ _. preceding_if (b ∷ bs) (is_letter b) _ _ (λ _. parts (prefix_len is_word (b ∷ bs)) (b ∷ bs)) (λ _. sign_preceding b bs))

first_preceding : (bytes : List ℕ) → Preceding bytes (first_token bytes)
first_preceding [] = refl
first_preceding (b ∷ bs) = token_preceding b bs

pub next_preceding : (bytes rest : List ℕ) (t : Lexeme) → next bytes ≡ Some (t, rest) → skip bytes ≡ lexeme_text t ++ rest
unfolding next
next_preceding bytes rest t e = from (first_token (skip bytes)) (first_preceding (skip bytes)) e
  where
    from : (o : Option (Lexeme × List ℕ)) → Preceding (skip bytes) o → o ≡ Some (t, rest) → skip bytes ≡ lexeme_text t ++ rest
    from None h e = absurd cc
    from (Some x) h e = let p = some_pair_parts x.0 t x.1 rest e in h ∙ (λ i. lexeme_text (p.0 i) ++ p.1 i)
