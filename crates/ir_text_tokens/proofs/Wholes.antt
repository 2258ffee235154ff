-- An identifier that is read is the longest one at its place.
use Rattle.std.proofs.Common.{◌≡◌, ℕ, suc, ◌+◌, Bool, true, false, cond, List, [], ◌∷◌, length, take, drop, Option, Some, None, refl, sym, ap, subst, ◌∙◌, arith, inl, inr}
use Rattle.std.specs.Prelude.{option_map, ◌==◌, ◌⊎◌}
use Rattle.std.proofs.lemmas.Bool.Decides.{nat_tests}
use Rattle.std.specs.List.{prefix_len}
use Rattle.std.specs.Char.{is_ascii_digit}
use Rattle.ir_text_tokens.specs.declared.token.Mark.{Mark}
use Rattle.ir_text_tokens.specs.Bytes.{is_letter, is_suffix, is_word}
use Rattle.ir_text_tokens.specs.Strings.{closing}
use Rattle.ir_text_tokens.specs.Tokens.{Lexeme, mark, string, bare, value, label, hash, bang, symbol, quoted, longer, mark_of, mark_at, skip, next, first_token, token_at, sign_at, symbol_at, name_at, number_at, string_at, suffix_len, hex_len, digits_len, fraction_len}
use Rattle.ir_text_tokens.specs.Printing.{Stops, is_bare_id, is_suffix_id, IsWhole, IsWholeName, extends_name}
use Rattle.ir_text_tokens.proofs.Decimals.{eqb_self}
use Rattle.std.proofs.lemmas.Bool.{cases_Bool}

abbrev Whole : Option (Lexeme × List ℕ) → Type 0
Whole None = Unit {0}
Whole (Some x) = IsWhole x.0 x.1

whole_if : (t : Bool) (a c : Option (Lexeme × List ℕ)) → (t ≡ true → Whole a) → (t ≡ false → Whole c) → Whole (cond t a c)
whole_if true a c f g = f refl
whole_if false a c f g = g refl

-- ---- runs

one_more : (p : ℕ → Bool) (c : ℕ) (cs : List ℕ) → p c ≡ true → prefix_len p (c ∷ cs) ≡ suc (prefix_len p cs)
one_more p c cs t = rw t (omega arith)

run_all : (p : ℕ → Bool) (bs : List ℕ) → prefix_len p (take (prefix_len p bs) bs) ≡ length (take (prefix_len p bs) bs)
run_all p [] = refl
run_all p (c ∷ cs) = elim (cases_Bool (p c)) [
  | inl t ↦
      let e = one_more p c cs t in
      let l : take (prefix_len p (c ∷ cs)) (c ∷ cs) ≡ c ∷ take (prefix_len p cs) cs = ap (λ n. take n (c ∷ cs)) e in
      ap (prefix_len p) l ∙ one_more p c (take (prefix_len p cs) cs) t ∙ ap suc (run_all p cs) ∙ ap length (sym l)
  | inr f ↦
      let e : prefix_len p (c ∷ cs) ≡ 0 = rw f refl in
      let l : take (prefix_len p (c ∷ cs)) (c ∷ cs) ≡ [] = ap (λ n. take n (c ∷ cs)) e in
      ap (prefix_len p) l ∙ ap length (sym l)
]

run_stops : (p : ℕ → Bool) (bs : List ℕ) → Stops p (drop (prefix_len p bs) bs)
run_stops p [] = tt
run_stops p (c ∷ cs) = elim (cases_Bool (p c)) [
  | inl t ↦ rw (one_more p c cs t) (run_stops p cs)
  | inr f ↦ let e : prefix_len p (c ∷ cs) ≡ 0 = rw f refl in rw e f
]

-- ---- bare identifiers

pub letter_word : (c : ℕ) → is_letter c ≡ true → is_word c ≡ true
letter_word c e = grind (arith, nat_tests)

bare_whole : (b : ℕ) (bs : List ℕ) → is_letter b ≡ true → IsWhole (bare (take (prefix_len is_word (b ∷ bs)) (b ∷ bs))) (drop (prefix_len is_word (b ∷ bs)) (b ∷ bs))
bare_whole b bs e =
    let n = prefix_len is_word bs in
    let l : take (prefix_len is_word (b ∷ bs)) (b ∷ bs) ≡ b ∷ take n bs = ap (λ k. take k (b ∷ bs)) (one_more is_word b bs (letter_word b e)) in
    let k : is_bare_id (b ∷ take n bs) ≡ true = rw (e, run_all is_word bs, eqb_self (length (take n bs))) refl in
    (ap is_bare_id l ∙ k, run_stops is_word (b ∷ bs))

-- ---- names

pub not_zero : (n : ℕ) → (suc n == 0) ≡ false
not_zero n = grind (arith, nat_tests)

is_name : (c : ℕ) (ws : List ℕ) → suffix_len (c ∷ ws) ≡ length (c ∷ ws) → is_suffix_id (c ∷ ws) ≡ true
is_name c ws e = rw (e, not_zero (length ws), eqb_self (length (c ∷ ws))) refl

-- a run of the class that begins with the byte c
run_name : (p : ℕ → Bool) (c : ℕ) (cs : List ℕ) → p c ≡ true → ((ws : List ℕ) → suffix_len (c ∷ ws) ≡ prefix_len p (c ∷ ws)) → ((ws : List ℕ) (d : ℕ) → extends_name (c ∷ ws) d ≡ p d)
    → IsWholeName (take (prefix_len p (c ∷ cs)) (c ∷ cs)) (drop (prefix_len p (c ∷ cs)) (c ∷ cs))
run_name p c cs t h k =
    let n = prefix_len p cs in
    let l : take (prefix_len p (c ∷ cs)) (c ∷ cs) ≡ c ∷ take n cs = ap (λ m. take m (c ∷ cs)) (one_more p c cs t) in
    let all : suffix_len (c ∷ take n cs) ≡ length (c ∷ take n cs) = h (take n cs) ∙ one_more p c (take n cs) t ∙ ap suc (run_all p cs) in (
      ap is_suffix_id l ∙ is_name c (take n cs) all,
      stops_so p (extends_name (take (prefix_len p (c ∷ cs)) (c ∷ cs))) (drop (prefix_len p (c ∷ cs)) (c ∷ cs)) (λ d. ap (λ w. extends_name w d) l ∙ k (take n cs) d) (run_stops p (c ∷ cs)),
    )
  where
    stops_so : (p q : ℕ → Bool) (rest : List ℕ) → ((d : ℕ) → q d ≡ p d) → Stops p rest → Stops q rest
    stops_so p q [] e s = tt
    stops_so p q (d ∷ ds) e s = e d ∙ s

whole_name : (c : ℕ) (cs : List ℕ) → (suffix_len (c ∷ cs) == 0) ≡ false → IsWholeName (take (suffix_len (c ∷ cs)) (c ∷ cs)) (drop (suffix_len (c ∷ cs)) (c ∷ cs))
whole_name c cs some = elim (cases_Bool (is_ascii_digit c)) [
  | inl t ↦
      let e : (ws : List ℕ) → suffix_len (c ∷ ws) ≡ digits_len (c ∷ ws) = λ ws. rw t refl in
      subst (λ n. IsWholeName (take n (c ∷ cs)) (drop n (c ∷ cs))) (sym (e cs)) (run_name is_ascii_digit c cs t e (λ ws d. rw t refl))
  | inr f ↦
      let e : (ws : List ℕ) → suffix_len (c ∷ ws) ≡ prefix_len is_suffix (c ∷ ws) = λ ws. rw f refl in
      let t : is_suffix c ≡ true = passes (cases_Bool (is_suffix c)) (e cs) in
      subst (λ n. IsWholeName (take n (c ∷ cs)) (drop n (c ∷ cs))) (sym (e cs)) (run_name is_suffix c cs t e (λ ws d. rw f refl))
]
  where
    passes : (is_suffix c ≡ true) ⊎ (is_suffix c ≡ false) → suffix_len (c ∷ cs) ≡ prefix_len is_suffix (c ∷ cs) → is_suffix c ≡ true
    passes (inl t) e = t
    passes (inr f) e =
        let z : prefix_len is_suffix (c ∷ cs) ≡ 0 = rw f refl in
        let y : (suffix_len (c ∷ cs) == 0) ≡ true = ap (λ n. n == 0) (e ∙ z) in
        absurd cc

name_whole : (make : List ℕ → Lexeme) (bs : List ℕ) → ((w rest : List ℕ) → IsWholeName w rest → IsWhole (make w) rest) → Whole (name_at make bs)
name_whole make [] h = tt
name_whole make (c ∷ cs) h = from (suffix_len (c ∷ cs) == 0) refl
  where
    from : (t : Bool) → (suffix_len (c ∷ cs) == 0) ≡ t → Whole (option_map (λ (x : List ℕ × List ℕ). (make x.0, x.1)) (cond t None (Some (take (suffix_len (c ∷ cs)) (c ∷ cs), drop (suffix_len (c ∷ cs)) (c ∷ cs)))))
    from true e = tt
    from false e = h _ _ (whole_name c cs e)

-- ---- all

number_whole : (bytes : List ℕ) → Whole (number_at bytes)
unfolding number_at
number_whole bytes =
    whole_if (hex_len bytes == 0) _ _ (λ _. whole_if (fraction_len (drop (digits_len bytes) bytes) == 0) _ _ (λ _. tt) (λ _. tt)) (λ _. tt)

string_whole : (bs : List ℕ) → Whole (string_at string bs)
string_whole bs = from (closing bs)
  where
    from : (o : Option ℕ) → Whole (option_map (λ (x : List ℕ × List ℕ). (string x.0, x.1)) (option_map (λ n. (take n bs, drop (n + 1) bs)) o))
    from None = tt
    from (Some n) = tt

quoted_whole : (bs : List ℕ) → Whole (string_at quoted bs)
quoted_whole bs = from (closing bs)
  where
    from : (o : Option ℕ) → Whole (option_map (λ (x : List ℕ × List ℕ). (quoted x.0, x.1)) (option_map (λ n. (take n bs, drop (n + 1) bs)) o))
    from None = tt
    from (Some n) = tt

symbol_whole : (bs : List ℕ) → Whole (symbol_at bs)
unfolding symbol_at
symbol_whole [] = tt
symbol_whole (c ∷ cs) = whole_if (c == 34) _ _ (λ _. quoted_whole cs) (λ _. name_whole symbol (c ∷ cs) (λ w rest k. k))

longer_whole : (c : ℕ) (long short : Mark) (bs : List ℕ) → Whole (longer c long short bs)
longer_whole c long short [] = tt
longer_whole c long short (d ∷ ds) = whole_if (d == c) _ _ (λ _. tt) (λ _. tt)

mark_whole : (b : ℕ) (bs : List ℕ) → Whole (mark_at b bs)
mark_whole b bs =
    whole_if (b == 58) _ _ (λ _. longer_whole 58 _ _ bs) (λ _. whole_if (b == 45) _ _ (λ _. longer_whole 62 _ _ bs) (λ _. from (mark_of b)))
  where
    from : (o : Option Mark) → Whole (option_map (λ m. (mark m, bs)) o)
    from None = tt
    from (Some m) = tt

sign_whole : (b : ℕ) (bs : List ℕ) → Whole (sign_at b bs)
sign_whole b bs =
    whole_if (b == 34) _ _ (λ _. string_whole bs)
    (λ _. whole_if (b == 37) _ _ (λ _. name_whole value bs (λ w rest k. k))
    (λ _. whole_if (b == 94) _ _ (λ _. name_whole label bs (λ w rest k. k))
    (λ _. whole_if (b == 35) _ _ (λ _. name_whole hash bs (λ w rest k. k))
    (λ _. whole_if (b == 33) _ _ (λ _. name_whole bang bs (λ w rest k. k))
    (λ _. whole_if (b == 64) _ _ (λ _. symbol_whole bs) (λ _. mark_whole b bs))))))

token_whole : (b : ℕ) (bs : List ℕ) → Whole (token_at b bs)
token_whole b bs =
    whole_if (is_ascii_digit b) _ _ (λ _. number_whole (b ∷ bs)) (λ _. whole_if (is_letter b) _ _ (λ e. bare_whole b bs e) (λ _. sign_whole b bs))

first_whole : (bytes : List ℕ) → Whole (first_token bytes)
first_whole [] = tt
first_whole (b ∷ bs) = token_whole b bs

pub next_whole : (bytes rest : List ℕ) (t : Lexeme) → next bytes ≡ Some (t, rest) → IsWhole t rest
unfolding next
next_whole bytes rest t e = subst Whole e (first_whole (skip bytes))
