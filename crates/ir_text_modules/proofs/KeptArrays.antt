-- Whether an array is opaque depends only on its body.
use Rattle.std.proofs.Common.{◌≡◌, ℕ, suc, ◌+◌, ◌<◌, Bool, true, false, true≢false, cond, List, [], ◌∷◌, ◌++◌, length, take, drop, Option, Some, None, inl, inr, refl, sym, ap, subst, ◌∙◌, arith}
use Rattle.std.specs.Prelude.{◌==◌, ◌&&◌, ◌||◌, not, if◌then◌else◌, option_map, option_and_then, Ok}
use Rattle.std.specs.List.{prefix_len}
use Rattle.std.specs.Char.{is_ascii_digit}
use Rattle.std.proofs.lemmas.Bool.{cases_Bool, eqb-true}
use Rattle.std.proofs.lemmas.Bool.Decides.{nat_tests}
use Rattle.std.proofs.lemmas.List.{append-nil, take-append-le, drop-append-le}
use Rattle.std.proofs.lemmas.List.Sums.{prefix_len-le-length}
use Rattle.ir_text_tokens.specs.declared.token.Mark.{Mark}
use Rattle.ir_text_tokens.specs.declared.token.Mark.TheVariants.{Arrow, Colon, DoubleColon, Less, Minus}
use Rattle.ir_text_tokens.specs.Bytes.{is_blank, is_letter, is_suffix, is_word}
use Rattle.ir_text_tokens.specs.Printing.{Stops}
use Rattle.ir_text_tokens.specs.Strings.{closing}
use Rattle.ir_text_tokens.specs.Tokens.{Lexeme, mark, integer, float, string, bare, value, label, hash, bang, symbol, quoted, cut, digits_len, exponent_len, first_token, fraction_len, hex_len, longer, mark_at, mark_of, name_at, name_parts, next, number_at, sign_at, skip, string_at, suffix_len, symbol_at, token_at}
use Rattle.ir_text_tokens.proofs.Printed.{mark_token}
use Rattle.ir_text_tokens.specs.Bodies.{scan}
use Rattle.ir_text_types.specs.Marks.{after}
use Rattle.ir_text_types.proofs.TextLaws.{after_only}
use Rattle.ir_text_attributes.specs.OpaqueAttributes.{begins_other, is_other_element, is_so, opens_other}
use Rattle.ir_text_modules.proofs.Kept.{no_word}
use Rattle.ir_text_modules.proofs.KeptNumbers.{digits_stay, hex_stays, no_digit, no_dot, run_stays, stops_as}
use Rattle.ir_text_modules.proofs.Simple.{Blanks, blanks_again}

-- whether a token begins another element type
abbrev other : Option (Lexeme × List ℕ) → Bool
other found = is_so (option_and_then (λ (t : Lexeme × List ℕ). Some (is_other_element t.0)) found)

-- ---- one byte decides, with the text after it

abbrev Same : Option (Lexeme × List ℕ) → Option (Lexeme × List ℕ) → Type 0
Same a b = other a ≡ other b

same_if : (t : Bool) (a b c d : Option (Lexeme × List ℕ)) → Same a c → Same b d → Same (cond t a b) (cond t c d)
same_if true a b c d f g = f
same_if false a b c d f g = g

never : (a : Option (Lexeme × List ℕ)) (b : Option (Lexeme × List ℕ)) → other a ≡ false → other b ≡ false → Same a b
never a b e f = e ∙ sym f

string_never : (bs : List ℕ) → other (string_at string bs) ≡ false
string_never bs = from (closing bs)
  where
    from : (o : Option ℕ) → other (option_map (λ (x : List ℕ × List ℕ). (string x.0, x.1)) (option_map (λ n. (take n bs, drop (n + 1) bs)) o)) ≡ false
    from None = refl
    from (Some n) = refl

quoted_never : (bs : List ℕ) → other (string_at quoted bs) ≡ false
quoted_never bs = from (closing bs)
  where
    from : (o : Option ℕ) → other (option_map (λ (x : List ℕ × List ℕ). (quoted x.0, x.1)) (option_map (λ n. (take n bs, drop (n + 1) bs)) o)) ≡ false
    from None = refl
    from (Some n) = refl

abbrev part : Bool → List ℕ → Option (List ℕ × List ℕ)
part none bs = if none then None else Some (take (suffix_len bs) bs, drop (suffix_len bs) bs)

value_never : (bs : List ℕ) → other (name_at value bs) ≡ false
value_never bs = from (suffix_len bs == 0)
  where
    from : (t : Bool) → other (option_map (λ (x : List ℕ × List ℕ). (value x.0, x.1)) (part t bs)) ≡ false
    from true = refl
    from false = refl

label_never : (bs : List ℕ) → other (name_at label bs) ≡ false
label_never bs = from (suffix_len bs == 0)
  where
    from : (t : Bool) → other (option_map (λ (x : List ℕ × List ℕ). (label x.0, x.1)) (part t bs)) ≡ false
    from true = refl
    from false = refl

symbol_never : (bs : List ℕ) → other (symbol_at bs) ≡ false
unfolding symbol_at
symbol_never [] = refl
symbol_never (c ∷ cs) = by (c == 34)
  where
    from : (t : Bool) → other (option_map (λ (x : List ℕ × List ℕ). (symbol x.0, x.1)) (part t (c ∷ cs))) ≡ false
    from true = refl
    from false = refl

    by : (t : Bool) → other (if t then string_at quoted cs else name_at symbol (c ∷ cs)) ≡ false
    by true = quoted_never cs
    by false = from (suffix_len (c ∷ cs) == 0)

-- whether there is a name doesn't depend on the rest
some_name : (w rest : List ℕ) → Stops is_suffix rest → (suffix_len (w ++ rest) == 0) ≡ (suffix_len w == 0)
some_name [] [] s = refl
some_name [] (c ∷ cs) s =
    let d = no_digit c s in
    let none : prefix_len is_suffix (c ∷ cs) ≡ 0 = rw s refl in
    let run : suffix_len (c ∷ cs) ≡ prefix_len is_suffix (c ∷ cs) = rw d refl in
    ap (λ n. n == 0) (run ∙ none)
some_name (c ∷ cs) rest s = elim (cases_Bool (is_ascii_digit c)) [
  | inl t ↦
      let a : suffix_len (c ∷ cs ++ rest) ≡ digits_len (c ∷ cs ++ rest) = rw t refl in
      let b : suffix_len (c ∷ cs) ≡ digits_len (c ∷ cs) = rw t refl in
      ap (λ n. n == 0) (a ∙ digits_stay (c ∷ cs) rest s ∙ sym b)
  | inr f ↦
      let a : suffix_len (c ∷ cs ++ rest) ≡ prefix_len is_suffix (c ∷ cs ++ rest) = rw f refl in
      let b : suffix_len (c ∷ cs) ≡ prefix_len is_suffix (c ∷ cs) = rw f refl in
      ap (λ n. n == 0) (a ∙ run_stays is_suffix (c ∷ cs) rest s ∙ sym b)
]

hash_same : (w rest : List ℕ) → Stops is_suffix rest → Same (name_at hash w) (name_at hash (w ++ rest))
hash_same w rest s = by (suffix_len w == 0) (suffix_len (w ++ rest) == 0) (some_name w rest s)
  where
    by : (a b : Bool) → b ≡ a → Same (option_map (λ (x : List ℕ × List ℕ). (hash x.0, x.1)) (part a w)) (option_map (λ (x : List ℕ × List ℕ). (hash x.0, x.1)) (part b (w ++ rest)))
    by true true e = refl
    by false false e = refl
    by true false e = absurd cc
    by false true e = absurd cc

bang_same : (w rest : List ℕ) → Stops is_suffix rest → Same (name_at bang w) (name_at bang (w ++ rest))
bang_same w rest s = by (suffix_len w == 0) (suffix_len (w ++ rest) == 0) (some_name w rest s)
  where
    by : (a b : Bool) → b ≡ a → Same (option_map (λ (x : List ℕ × List ℕ). (bang x.0, x.1)) (part a w)) (option_map (λ (x : List ℕ × List ℕ). (bang x.0, x.1)) (part b (w ++ rest)))
    by true true e = refl
    by false false e = refl
    by true false e = absurd cc
    by false true e = absurd cc

longer_never : (c : ℕ) (long short : Mark) (bs : List ℕ) → is_other_element (mark long) ≡ false → is_other_element (mark short) ≡ false → other (longer c long short bs) ≡ false
longer_never c long short [] e f = f
longer_never c long short (d ∷ ds) e f = by (d == c)
  where
    by : (t : Bool) → other (if t then Some (mark long, ds) else Some (mark short, d ∷ ds)) ≡ false
    by true = e
    by false = f

mark_same : (b : ℕ) (w z : List ℕ) → Same (mark_at b w) (mark_at b z)
mark_same b w z =
    same_if (b == 58) _ _ _ _ (never (longer 58 DoubleColon Colon w) (longer 58 DoubleColon Colon z) (longer_never 58 DoubleColon Colon w refl refl) (longer_never 58 DoubleColon Colon z refl refl))
    (same_if (b == 45) _ _ _ _ (never (longer 62 Arrow Minus w) (longer 62 Arrow Minus z) (longer_never 62 Arrow Minus w refl refl) (longer_never 62 Arrow Minus z refl refl)) (from (mark_of b)))
  where
    from : (o : Option Mark) → Same (option_map (λ m. (mark m, w)) o) (option_map (λ m. (mark m, z)) o)
    from None = refl
    from (Some m) = refl

-- ---- numbers and words

-- whether there is a fraction doesn't depend on the rest
some_fraction : (w rest : List ℕ) → Stops is_suffix rest → (fraction_len (w ++ rest) == 0) ≡ (fraction_len w == 0)
unfolding fraction_len
some_fraction [] [] s = refl
some_fraction [] (c ∷ cs) s = rw (no_dot c s) refl
some_fraction (c ∷ cs) rest s = by (c == 46)
  where
    some : (n m : ℕ) → (1 + n + m == 0) ≡ false
    some n m = grind (arith, nat_tests)

    by : (t : Bool) → ((if t then 1 + digits_len (cs ++ rest) + exponent_len (drop (digits_len (cs ++ rest)) (cs ++ rest)) else 0) == 0) ≡ ((if t then 1 + digits_len cs + exponent_len (drop (digits_len cs) cs) else 0) == 0)
    by true = some (digits_len (cs ++ rest)) (exponent_len (drop (digits_len (cs ++ rest)) (cs ++ rest))) ∙ sym (some (digits_len cs) (exponent_len (drop (digits_len cs) cs)))
    by false = refl

number_same : (w rest : List ℕ) → Stops is_suffix rest → Same (number_at w) (number_at (w ++ rest))
unfolding number_at
number_same w rest s =
    by (hex_len w == 0) (hex_len (w ++ rest) == 0) (ap (λ n. n == 0) (hex_stays w rest s)) (fraction_len (drop (digits_len w) w) == 0) (fraction_len (drop (digits_len (w ++ rest)) (w ++ rest)) == 0) same
  where
    left : drop (digits_len (w ++ rest)) (w ++ rest) ≡ drop (digits_len w) w ++ rest
    left = ap (λ n. drop n (w ++ rest)) (digits_stay w rest s) ∙ drop-append-le (digits_len w) w rest (prefix_len-le-length is_ascii_digit w)

    same : (fraction_len (drop (digits_len (w ++ rest)) (w ++ rest)) == 0) ≡ (fraction_len (drop (digits_len w) w) == 0)
    same = ap (λ l. fraction_len l == 0) left ∙ some_fraction (drop (digits_len w) w) rest s

    by : (h k : Bool) → k ≡ h → (f g : Bool) → g ≡ f
        → Same (if h then (if f then cut integer (digits_len w) w else cut float (digits_len w + fraction_len (drop (digits_len w) w)) w) else cut integer (hex_len w) w)
        (if k then (if g then cut integer (digits_len (w ++ rest)) (w ++ rest) else cut float (digits_len (w ++ rest) + fraction_len (drop (digits_len (w ++ rest)) (w ++ rest))) (w ++ rest)) else cut integer (hex_len (w ++ rest)) (w ++ rest))
    by true true e true true k = refl
    by true true e false false k = refl
    by true true e true false k = absurd cc
    by true true e false true k = absurd cc
    by false false e f g k = refl
    by true false e f g k = absurd cc
    by false true e f g k = absurd cc

word_same : (w rest : List ℕ) → Stops is_suffix rest → Same (cut bare (prefix_len is_word w) w) (cut bare (prefix_len is_word (w ++ rest)) (w ++ rest))
word_same w rest s =
    let run = run_stays is_word w rest (no_word rest s) in
    let same : take (prefix_len is_word (w ++ rest)) (w ++ rest) ≡ take (prefix_len is_word w) w = ap (λ n. take n (w ++ rest)) run ∙ take-append-le (prefix_len is_word w) w rest (prefix_len-le-length is_word w) in
    ap (λ l. is_other_element (bare l)) (sym same)

-- ---- all

sign_same : (b : ℕ) (w rest : List ℕ) → Stops is_suffix rest → Same (sign_at b w) (sign_at b (w ++ rest))
sign_same b w rest s =
    let z = w ++ rest in
    same_if (b == 34) _ _ _ _ (never (string_at string w) (string_at string z) (string_never w) (string_never z))
    (same_if (b == 37) _ _ _ _ (never (name_at value w) (name_at value z) (value_never w) (value_never z))
    (same_if (b == 94) _ _ _ _ (never (name_at label w) (name_at label z) (label_never w) (label_never z))
    (same_if (b == 35) _ _ _ _ (hash_same w rest s)
    (same_if (b == 33) _ _ _ _ (bang_same w rest s)
    (same_if (b == 64) _ _ _ _ (never (symbol_at w) (symbol_at z) (symbol_never w) (symbol_never z)) (mark_same b w z))))))

token_same : (b : ℕ) (w rest : List ℕ) → Stops is_suffix rest → Same (token_at b w) (token_at b (w ++ rest))
token_same b w rest s = same_if (is_ascii_digit b) _ _ _ _ (number_same (b ∷ w) rest s) (same_if (is_letter b) _ _ _ _ (word_same (b ∷ w) rest s) (sign_same b w rest s))

-- after the bracket of a body
inner_same : (v rest : List ℕ) → scan (62 ∷ []) 0 (v ++ []) ≡ Ok [] → Stops is_suffix rest → Same (next (v ++ [])) (next (v ++ rest))
unfolding next
inner_same v rest e s = from (blanks_again v [] rest e)
  where
    from : Blanks v [] rest → Same (first_token (skip (v ++ []))) (first_token (skip (v ++ rest)))
    from b = rw (b.2, b.3) (subst (λ l. Same (first_token (b.0 ∷ l)) (first_token (b.0 ∷ b.1 ++ rest))) (sym (append-nil b.1)) (token_same b.0 b.1 rest s))

pub other_again : (v rest : List ℕ) → scan (62 ∷ []) 0 (v ++ []) ≡ Ok [] → Stops is_suffix rest → opens_other (60 ∷ v ++ []) ≡ true → opens_other (60 ∷ v ++ rest) ≡ true
unfolding opens_other
other_again v rest e s h =
    let old : after Less (60 ∷ v ++ []) ≡ Some (v ++ []) = after_only Less (60 ∷ v ++ []) (v ++ []) (mark_token Less (v ++ []) tt) in
    let new : after Less (60 ∷ v ++ rest) ≡ Some (v ++ rest) = after_only Less (60 ∷ v ++ rest) (v ++ rest) (mark_token Less (v ++ rest) tt) in
    let was : other (next (v ++ [])) ≡ true = sym (ap (λ o. is_so (option_and_then begins_other o)) old) ∙ h in
    ap (λ o. is_so (option_and_then begins_other o)) new ∙ sym (inner_same v rest e s) ∙ was
