-- The rest of the text after a token is shorter by at least the token's minimum length.
use Rattle.std.proofs.Common.{◌≡◌, ◌≤◌, ◌+◌, ℕ, zero, suc, Bool, true, false, List, [], ◌∷◌, length, take, drop, Option, Some, None, refl, subst, arith, length-drop}
use Rattle.std.specs.Prelude.{if◌then◌else◌, ◌==◌, ◌||◌, ◌&&◌, nat_le, option_map}
use Rattle.std.specs.List.{prefix_len}
use Rattle.std.specs.Char.{is_ascii_digit}
use Rattle.ir_text_tokens.specs.Bytes.{is_blank, is_letter, is_word}
use Rattle.ir_text_tokens.specs.Strings.{closing}
use Rattle.ir_text_tokens.specs.declared.token.Mark.{Mark}
use Rattle.ir_text_tokens.specs.declared.token.Mark.TheVariants.{End}
use Rattle.ir_text_tokens.specs.Tokens.{Lexeme, mark, integer, float, string, bare, value, label, hash, bang, symbol, quoted, skip, skip_line, is_comment, next, first_token, token_at, sign_at, number_at, decimal_at, digits_len, hex_len, fraction_len, cut, suffix_len, name_at, string_at, symbol_at, longer, mark_of, mark_at}
use Rattle.ir_text_tokens.proofs.Wholes.{letter_word}

skipped : (c : ℕ) (cs : List ℕ) (p q : Bool) → length (skip_line cs) ≤ length cs → length (skip cs) ≤ length cs → length (if p then skip_line cs else if q then skip cs else c ∷ cs) ≤ suc (length cs)
skipped c cs true q line next = omega arith
skipped c cs false true line next = omega arith
skipped c cs false false line next = omega arith

lined : (cs : List ℕ) (p : Bool) → length (skip_line cs) ≤ length cs → length (skip cs) ≤ length cs → length (if p then skip cs else skip_line cs) ≤ suc (length cs)
lined cs true line next = omega arith
lined cs false line next = omega arith

mutual
  unfolding skip skip_line

  pub skip_length : (b : List ℕ) → length (skip b) ≤ length b
  skip_length [] = omega arith
  skip_length (c ∷ cs) = skipped c cs (is_comment c cs) (is_blank c) (line_length cs) (skip_length cs)

  line_length : (b : List ℕ) → length (skip_line b) ≤ length b
  line_length [] = omega arith
  line_length (c ∷ cs) = lined cs (c == 10) (line_length cs) (skip_length cs)

-- the minimum length of a token
abbrev pub gain : Lexeme → ℕ
gain (mark End) = 0
gain (mark _) = 1
gain (integer s) = 1
gain (float s) = 1
gain (string s) = 2
gain (bare s) = 1
gain (value s) = 1
gain (label s) = 1
gain (hash s) = 1
gain (bang s) = 1
gain (symbol s) = 2
gain (quoted s) = 2

-- the rest after the token, with the token's minimum length, is at most n bytes
abbrev Within : ℕ → Option (Lexeme × List ℕ) → Type 0
Within n None = Unit {0}
Within n (Some t) = length t.1 + gain t.0 ≤ n

not_none : (n : ℕ) → (n == 0) ≡ false → 1 ≤ n
not_none zero e = absurd cc
not_none (suc n) e = omega arith

pub drop_less : (n : ℕ) (b : List ℕ) → length (drop n b) ≤ length b
drop_less n b = let e = length-drop n b in omega arith

-- at least one byte is removed
cut_one : (make : List ℕ → Lexeme) → ((s : List ℕ) → gain (make s) ≡ 1) → (n b : ℕ) (bs : List ℕ) → 1 ≤ n → Within (suc (length bs)) (cut make n (b ∷ bs))
cut_one make one n b bs h = let e = length-drop n (b ∷ bs) in let g = one (take n (b ∷ bs)) in omega arith

digits_one : (b : ℕ) (bs : List ℕ) → is_ascii_digit b ≡ true → 1 ≤ digits_len (b ∷ bs)
digits_one b bs e = rw e (omega arith)

number_length : (b : ℕ) (bs : List ℕ) → is_ascii_digit b ≡ true → Within (suc (length bs)) (number_at (b ∷ bs))
unfolding number_at
number_length b bs digit = by_hex (hex_len (b ∷ bs) == 0) refl
  where
    by_fraction : (f : ℕ) (p : Bool) → Within (suc (length bs)) (if p then cut integer (digits_len (b ∷ bs)) (b ∷ bs) else cut float (digits_len (b ∷ bs) + f) (b ∷ bs))
    by_fraction f true = cut_one integer (λ s. refl) (digits_len (b ∷ bs)) b bs (digits_one b bs digit)
    by_fraction f false = cut_one float (λ s. refl) (digits_len (b ∷ bs) + f) b bs (omega (arith, digits_one b bs digit))

    by_hex : (p : Bool) → (hex_len (b ∷ bs) == 0) ≡ p → Within (suc (length bs)) (if p then decimal_at (digits_len (b ∷ bs)) (b ∷ bs) else cut integer (hex_len (b ∷ bs)) (b ∷ bs))
    by_hex true e = by_fraction (fraction_len (drop (digits_len (b ∷ bs)) (b ∷ bs))) (fraction_len (drop (digits_len (b ∷ bs)) (b ∷ bs)) == 0)
    by_hex false e = cut_one integer (λ s. refl) (hex_len (b ∷ bs)) b bs (not_none (hex_len (b ∷ bs)) e)

bare_length : (b : ℕ) (bs : List ℕ) → is_letter b ≡ true → Within (suc (length bs)) (cut bare (prefix_len is_word (b ∷ bs)) (b ∷ bs))
bare_length b bs e = cut_one bare (λ s. refl) (prefix_len is_word (b ∷ bs)) b bs (rw (letter_word b e) (omega arith))

-- ---- after a sigil

name_length : (make : List ℕ → Lexeme) → ((s : List ℕ) → gain (make s) ≡ 1) → (bs : List ℕ) → Within (suc (length bs)) (name_at make bs)
name_length make one bs = by (suffix_len bs == 0)
  where
    by : (p : Bool) → Within (suc (length bs)) (option_map (λ (x : List ℕ × List ℕ). (make x.0, x.1)) (if p then None else Some (take (suffix_len bs) bs, drop (suffix_len bs) bs)))
    by true = tt
    by false = omega (arith, drop_less (suffix_len bs) bs, one (take (suffix_len bs) bs))

string_length : (make : List ℕ → Lexeme) → ((s : List ℕ) → gain (make s) ≡ 2) → (bs : List ℕ) → Within (suc (length bs)) (string_at make bs)
unfolding closing
string_length make two [] = tt
string_length make two (c ∷ cs) = by (closing (c ∷ cs))
  where
    by : (o : Option ℕ) → Within (suc (suc (length cs))) (option_map (λ (x : List ℕ × List ℕ). (make x.0, x.1)) (option_map (λ n. (take n (c ∷ cs), drop (n + 1) (c ∷ cs))) o))
    by None = tt
    by (Some n) = let e = length-drop (n + 1) (c ∷ cs) in omega (arith, two (take n (c ∷ cs)))

symbol_length : (bs : List ℕ) → Within (suc (length bs)) (symbol_at bs)
unfolding symbol_at
symbol_length [] = tt
symbol_length (c ∷ cs) = by (c == 34)
  where
    by_suffix : (n : ℕ) (p : Bool) → (n == 0) ≡ p → Within (suc (suc (length cs))) (option_map (λ (x : List ℕ × List ℕ). (symbol x.0, x.1)) (if p then None else Some (take n (c ∷ cs), drop n (c ∷ cs))))
    by_suffix n true e = tt
    by_suffix n false e = let k = length-drop n (c ∷ cs) in omega (arith, not_none n e)

    more : (o : Option (Lexeme × List ℕ)) → Within (suc (length cs)) o → Within (suc (suc (length cs))) o
    more None h = tt
    more (Some t) h = omega arith

    by : (p : Bool) → Within (suc (suc (length cs))) (if p then string_at quoted cs else name_at symbol (c ∷ cs))
    by true = more (string_at quoted cs) (string_length quoted (λ s. refl) cs)
    by false = by_suffix (suffix_len (c ∷ cs)) (suffix_len (c ∷ cs) == 0) refl

-- ---- punctuation marks

mark_gain : (m : Mark) → gain (mark m) ≤ 1
mark_gain End = omega arith
mark_gain _ = omega arith

longer_length : (b : ℕ) (long short : Mark) (bs : List ℕ) → Within (suc (length bs)) (longer b long short bs)
longer_length b long short [] = omega (arith, mark_gain short)
longer_length b long short (c ∷ cs) = by (c == b)
  where
    by : (p : Bool) → Within (suc (suc (length cs))) (if p then Some (mark long, cs) else Some (mark short, c ∷ cs))
    by true = omega (arith, mark_gain long)
    by false = omega (arith, mark_gain short)

one_mark : (o : Option Mark) (bs : List ℕ) → Within (suc (length bs)) (option_map (λ m. (mark m, bs)) o)
one_mark None bs = tt
one_mark (Some m) bs = omega (arith, mark_gain m)

if_within : (p : Bool) (n : ℕ) (x y : Option (Lexeme × List ℕ)) → Within n x → Within n y → Within n (if p then x else y)
if_within true n x y h k = h
if_within false n x y h k = k

mark_length : (b : ℕ) (bs : List ℕ) → Within (suc (length bs)) (mark_at b bs)
mark_length b bs = if_within (b == 58) _ _ _ (longer_length 58 _ _ bs) (if_within (b == 45) _ _ _ (longer_length 62 _ _ bs) (one_mark (mark_of b) bs))

sign_length : (b : ℕ) (bs : List ℕ) → Within (suc (length bs)) (sign_at b bs)
sign_length b bs =
    if_within (b == 34) _ _ _ (string_length string (λ s. refl) bs)
    (if_within (b == 37) _ _ _ (name_length value (λ s. refl) bs)
    (if_within (b == 94) _ _ _ (name_length label (λ s. refl) bs)
    (if_within (b == 35) _ _ _ (name_length hash (λ s. refl) bs)
    (if_within (b == 33) _ _ _ (name_length bang (λ s. refl) bs)
    (if_within (b == 64) _ _ _ (symbol_length bs) (mark_length b bs))))))

token_length : (b : ℕ) (bs : List ℕ) → Within (suc (length bs)) (token_at b bs)
token_length b bs = by_digit (is_ascii_digit b) refl
  where
    by_letter : (p : Bool) → is_letter b ≡ p → Within (suc (length bs)) (if p then cut bare (prefix_len is_word (b ∷ bs)) (b ∷ bs) else sign_at b bs)
    by_letter true e = bare_length b bs e
    by_letter false e = sign_length b bs

    by_digit : (p : Bool) → is_ascii_digit b ≡ p → Within (suc (length bs)) (if p then number_at (b ∷ bs) else if is_letter b then cut bare (prefix_len is_word (b ∷ bs)) (b ∷ bs) else sign_at b bs)
    by_digit true e = number_length b bs e
    by_digit false e = by_letter (is_letter b) refl

first_length : (b : List ℕ) → Within (length b) (first_token b)
first_length [] = omega arith
first_length (b ∷ bs) = token_length b bs

-- the rest after the next token, with the bytes of the token
pub next_length : (b rest : List ℕ) (t : Lexeme) → next b ≡ Some (t, rest) → length rest + gain t ≤ length b
unfolding next
next_length b rest t e = let h : Within (length (skip b)) (Some (t, rest)) = subst (Within (length (skip b))) e (first_length (skip b)) in omega (arith, skip_length b, h)
