-- A printed token is read again.
use Rattle.std.proofs.Common.{◌≡◌, ℕ, ◌^◌, ◌<◌, ◌≤◌, Bool, true, false, List, [], ◌∷◌, ◌++◌, length, Some, refl, sym, ap, ◌∙◌, arith, inl, inr}
use Rattle.std.specs.Prelude.{option_map, ◌==◌, ◌&&◌, not}
use Rattle.std.specs.List.{prefix_len}
use Rattle.std.specs.Char.{is_ascii_digit}
use Rattle.std.specs.Fmt.{decimal}
use Rattle.std.proofs.lemmas.Bool.Decides.{nat_tests}
use Rattle.std.proofs.lemmas.Bool.{eqb-true, and_parts, cases_Bool}
use Rattle.std.proofs.lemmas.List.{take_at, drop_at}
use Rattle.ir_text_tokens.specs.declared.token.Mark.{Mark}
use Rattle.ir_text_tokens.specs.declared.token.Mark.TheVariants.{OpenRound, CloseRound, OpenCurly, CloseCurly, OpenSquare, CloseSquare, Less, Greater, Comma, Equal, Colon, DoubleColon, Minus, Arrow, Question, Star, End}
use Rattle.ir_text_tokens.specs.Bytes.{is_blank, is_letter, is_word, is_suffix}
use Rattle.ir_text_tokens.specs.Tokens.{Lexeme, mark, integer, string, bare, value, label, hash, symbol, quoted, longer, cut, skip, next, first_token, token_at, symbol_at, name_at, number_at, suffix_len, digits_len}
use Rattle.ir_text_tokens.specs.Printing.{AreBytes, Stops, ClosesMark, extends_integer, raw_text, string_text, is_bare_id, is_suffix_id, key_text, signed_text, symbol_text, mark_text}
use Rattle.ir_text_tokens.proofs.Blanks.{skip_nothing}
use Rattle.ir_text_tokens.proofs.Escapes.{parts_again}
use Rattle.ir_text_tokens.proofs.Decimals.{run_ends, first_passes, rest_passes, number_again, decimal_number, eqb_self}

pub blank_passed : (b : ℕ) (bs : List ℕ) → is_blank b ≡ true → next (b ∷ bs) ≡ next bs
unfolding next skip
blank_passed b [] blank = rw blank refl
blank_passed b (c ∷ cs) blank =
    let slash : (b == 47) ≡ false = grind (arith, nat_tests) in
    rw (slash, blank) refl

-- the first byte decides which token begins
begins : (b : ℕ) (bs : List ℕ) → (b == 47) ≡ false → is_blank b ≡ false → next (b ∷ bs) ≡ token_at b bs
unfolding next
begins b bs slash blank = ap first_token (skip_nothing b bs slash blank)

-- ---- strings

pub string_token : (v rest : List ℕ) → AreBytes v → next (string_text v ++ rest) ≡ Some (string (raw_text v), rest)
string_token v rest h = begins 34 ((raw_text v ++ 34 ∷ []) ++ rest) refl refl ∙ ap (option_map (λ x. (string x.0, x.1))) (parts_again v rest h)

-- ---- numbers

digit_begins : (b : ℕ) (bs : List ℕ) → is_ascii_digit b ≡ true → next (b ∷ bs) ≡ number_at (b ∷ bs)
digit_begins b bs e =
    let slash : (b == 47) ≡ false = grind (arith, nat_tests) in
    let blank : is_blank b ≡ false = grind (arith, nat_tests) in
    begins b bs slash blank ∙ rw e refl

digits_token : (ds rest : List ℕ) → digits_len ds ≡ length ds → 1 ≤ length ds → Stops extends_integer rest → next (ds ++ rest) ≡ Some (integer ds, rest)
digits_token [] rest h le s = absurd (omega (arith, le))
digits_token (d ∷ ds) rest h le s = digit_begins d (ds ++ rest) (first_passes is_ascii_digit d ds h) ∙ number_again (d ∷ ds) rest h le s

pub decimal_token : (n : ℕ) (rest : List ℕ) → n < 2 ^ 128 → Stops extends_integer rest → next (decimal n ++ rest) ≡ Some (integer (decimal n), rest)
decimal_token n rest lt s = digits_token (decimal n) rest (decimal_number n lt).digits (decimal_number n lt).some s

-- ---- bare identifiers

-- a letter is no blank, slash or sigil
record IsFirst (c : ℕ) : Type 0 where
  pub slash : (c == 47) ≡ false
  pub blank : is_blank c ≡ false
  pub digit : is_ascii_digit c ≡ false
  pub word : is_word c ≡ true

is_first : (c : ℕ) → is_letter c ≡ true → IsFirst c
is_first c e = record { slash = grind (arith, nat_tests); blank = grind (arith, nat_tests); digit = grind (arith, nat_tests); word = grind (arith, nat_tests) }

bare_begins : (c : ℕ) (cs : List ℕ) → is_letter c ≡ true → IsFirst c → next (c ∷ cs) ≡ cut bare (prefix_len is_word (c ∷ cs)) (c ∷ cs)
bare_begins c cs e f = begins c cs f.slash f.blank ∙ rw (f.digit, e) refl

cut_at : (make : List ℕ → Lexeme) (n : ℕ) (w rest : List ℕ) → n ≡ length w → cut make n (w ++ rest) ≡ Some (make w, rest)
cut_at make n w rest e = rw (e, take_at w rest (length w) refl, drop_at w rest (length w) refl) refl

is_run : (c : ℕ) (cs : List ℕ) → is_word c ≡ true → prefix_len is_word cs ≡ length cs → prefix_len is_word (c ∷ cs) ≡ length (c ∷ cs)
is_run c cs e h = rw (e, h) (omega arith)

pub bare_token : (w rest : List ℕ) → is_bare_id w ≡ true → Stops is_word rest → next (w ++ rest) ≡ Some (bare w, rest)
bare_token [] rest e s = absurd cc
bare_token (c ∷ cs) rest e s =
    let p = and_parts (is_letter c) (prefix_len is_word cs == length cs) e in
    let f = is_first c p.0 in
    bare_begins c (cs ++ rest) p.0 f ∙ cut_at bare _ (c ∷ cs) rest (run_ends is_word (c ∷ cs) rest (is_run c cs f.word (eqb-true _ _ p.1)) s)

-- ---- names after a sigil

stops_digit : (rest : List ℕ) → Stops is_suffix rest → Stops is_ascii_digit rest
stops_digit [] s = tt
stops_digit (c ∷ cs) s = elim (cases_Bool (is_ascii_digit c)) [
  | inl t ↦ let z : is_suffix c ≡ true = grind (arith, nat_tests) in absurd cc
  | inr f ↦ f
]

suffix_run : (w rest : List ℕ) → suffix_len w ≡ length w → 1 ≤ length w → Stops is_suffix rest → suffix_len (w ++ rest) ≡ length w
suffix_run [] rest h le s = absurd (omega (arith, le))
suffix_run (c ∷ cs) rest h le s = elim (cases_Bool (is_ascii_digit c)) [
  | inl t ↦
      let before : suffix_len (c ∷ cs) ≡ digits_len (c ∷ cs) = rw t refl in
      let after : suffix_len (c ∷ (cs ++ rest)) ≡ digits_len (c ∷ (cs ++ rest)) = rw t refl in
      after ∙ run_ends is_ascii_digit (c ∷ cs) rest (sym before ∙ h) (stops_digit rest s)
  | inr f ↦
      let before : suffix_len (c ∷ cs) ≡ prefix_len is_suffix (c ∷ cs) = rw f refl in
      let after : suffix_len (c ∷ (cs ++ rest)) ≡ prefix_len is_suffix (c ∷ (cs ++ rest)) = rw f refl in
      after ∙ run_ends is_suffix (c ∷ cs) rest (sym before ∙ h) s
]

not_zero : (n : ℕ) → not (n == 0) ≡ true → 1 ≤ n
not_zero n e = grind (arith, nat_tests)

pub zero_test : (n : ℕ) → 1 ≤ n → (n == 0) ≡ false
zero_test n le = grind (arith, nat_tests)

pub name_again : (make : List ℕ → Lexeme) (w rest : List ℕ) → is_suffix_id w ≡ true → Stops is_suffix rest → name_at make (w ++ rest) ≡ Some (make w, rest)
name_again make w rest e s =
    let p = and_parts (not (length w == 0)) (suffix_len w == length w) e in
    let some = not_zero (length w) p.0 in
    let len = suffix_run w rest (eqb-true _ _ p.1) some s in
    rw (len, zero_test (length w) some, take_at w rest (length w) refl, drop_at w rest (length w) refl) refl

pub value_token : (w rest : List ℕ) → is_suffix_id w ≡ true → Stops is_suffix rest → next (37 ∷ (w ++ rest)) ≡ Some (value w, rest)
value_token w rest e s = begins 37 (w ++ rest) refl refl ∙ name_again value w rest e s

pub label_token : (w rest : List ℕ) → is_suffix_id w ≡ true → Stops is_suffix rest → next (94 ∷ (w ++ rest)) ≡ Some (label w, rest)
label_token w rest e s = begins 94 (w ++ rest) refl refl ∙ name_again label w rest e s

pub hash_token : (w rest : List ℕ) → is_suffix_id w ≡ true → Stops is_suffix rest → next (35 ∷ (w ++ rest)) ≡ Some (hash w, rest)
hash_token w rest e s = begins 35 (w ++ rest) refl refl ∙ name_again hash w rest e s

-- ---- suffix identifiers that are printed

pub decimal_name : (n : ℕ) → n < 2 ^ 128 → is_suffix_id (decimal n) ≡ true
decimal_name n lt = digits_name (decimal n) (decimal_number n lt).digits (decimal_number n lt).some
  where
    digits_name : (ds : List ℕ) → digits_len ds ≡ length ds → 1 ≤ length ds → is_suffix_id ds ≡ true
    digits_name [] h le = absurd (omega (arith, le))
    digits_name (d ∷ ds) h le =
        let t = first_passes is_ascii_digit d ds h in
        let e : suffix_len (d ∷ ds) ≡ length (d ∷ ds) = rw t refl ∙ h in
        rw (e, zero_test (length (d ∷ ds)) le, eqb_self (length (d ∷ ds))) refl

-- ---- symbols

suffix_bytes : (ws : List ℕ) → prefix_len is_word ws ≡ length ws → prefix_len is_suffix ws ≡ length ws
suffix_bytes [] h = refl
suffix_bytes (c ∷ cs) h =
    let t = first_passes is_word c cs h in
    let e : is_suffix c ≡ true = rw t refl in
    rw (e, suffix_bytes cs (rest_passes is_word c cs h)) (omega arith)

bare_name : (w : List ℕ) → is_bare_id w ≡ true → is_suffix_id w ≡ true
bare_name [] e = absurd cc
bare_name (c ∷ cs) e =
    let p = and_parts (is_letter c) (prefix_len is_word cs == length cs) e in
    let f = is_first c p.0 in
    let k : suffix_len (c ∷ cs) ≡ prefix_len is_suffix (c ∷ cs) = rw f.digit refl in
    let l : suffix_len (c ∷ cs) ≡ length (c ∷ cs) = k ∙ suffix_bytes (c ∷ cs) (is_run c cs f.word (eqb-true _ _ p.1)) in
    let some : 1 ≤ length (c ∷ cs) = omega arith in
    rw (l, zero_test (length (c ∷ cs)) some, eqb_self (length (c ∷ cs))) refl

not_quote : (c : ℕ) → is_letter c ≡ true → (c == 34) ≡ false
not_quote c e = grind (arith, nat_tests)

symbol_again : (w rest : List ℕ) → is_bare_id w ≡ true → Stops is_suffix rest → symbol_at (w ++ rest) ≡ Some (symbol w, rest)
unfolding symbol_at
symbol_again [] rest e s = absurd cc
symbol_again (c ∷ cs) rest e s =
    let p = and_parts (is_letter c) (prefix_len is_word cs == length cs) e in
    rw (not_quote c p.0) (name_again symbol (c ∷ cs) rest (bare_name (c ∷ cs) e) s)

quoted_again : (v rest : List ℕ) → AreBytes v → symbol_at (string_text v ++ rest) ≡ Some (quoted (raw_text v), rest)
unfolding symbol_at
quoted_again v rest h = ap (option_map (λ x. (quoted x.0, x.1))) (parts_again v rest h)

pub symbol_token : (v rest : List ℕ) → is_bare_id v ≡ true → Stops is_suffix rest → next (symbol_text v ++ rest) ≡ Some (symbol v, rest)
symbol_token v rest e s =
    let k : key_text v ≡ v = rw e refl in
    rw k (begins 64 (v ++ rest) refl refl ∙ symbol_again v rest e s)

pub quoted_token : (v rest : List ℕ) → is_bare_id v ≡ false → AreBytes v → next (symbol_text v ++ rest) ≡ Some (quoted (raw_text v), rest)
quoted_token v rest e h =
    let k : key_text v ≡ string_text v = rw e refl in
    rw k (begins 64 (string_text v ++ rest) refl refl ∙ quoted_again v rest h)

pub bare_key : (v rest : List ℕ) → is_bare_id v ≡ true → Stops is_word rest → next (key_text v ++ rest) ≡ Some (bare v, rest)
bare_key v rest e s =
    let k : key_text v ≡ v = rw e refl in
    rw k (bare_token v rest e s)

pub string_key : (v rest : List ℕ) → is_bare_id v ≡ false → AreBytes v → next (key_text v ++ rest) ≡ Some (string (raw_text v), rest)
string_key v rest e h =
    let k : key_text v ≡ string_text v = rw e refl in
    rw k (string_token v rest h)

-- ---- marks

shorter_mark : (b : ℕ) (long short : Mark) (rest : List ℕ) → Stops (λ c. c == b) rest → longer b long short rest ≡ Some (mark short, rest)
shorter_mark b long short [] s = refl
shorter_mark b long short (c ∷ cs) s = rw s refl

nothing_left : next [] ≡ Some (mark End, [])
unfolding next skip
nothing_left = refl

pub mark_token : (m : Mark) (rest : List ℕ) → ClosesMark m rest → next (mark_text m ++ rest) ≡ Some (mark m, rest)
mark_token OpenRound rest h = begins 40 rest refl refl
mark_token CloseRound rest h = begins 41 rest refl refl
mark_token OpenCurly rest h = begins 123 rest refl refl
mark_token CloseCurly rest h = begins 125 rest refl refl
mark_token OpenSquare rest h = begins 91 rest refl refl
mark_token CloseSquare rest h = begins 93 rest refl refl
mark_token Less rest h = begins 60 rest refl refl
mark_token Greater rest h = begins 62 rest refl refl
mark_token Comma rest h = begins 44 rest refl refl
mark_token Equal rest h = begins 61 rest refl refl
mark_token Colon rest h = begins 58 rest refl refl ∙ shorter_mark 58 DoubleColon Colon rest h
mark_token DoubleColon rest h = begins 58 (58 ∷ rest) refl refl
mark_token Minus rest h = begins 45 rest refl refl ∙ shorter_mark 62 Arrow Minus rest h
mark_token Arrow rest h = begins 45 (62 ∷ rest) refl refl
mark_token Question rest h = begins 63 rest refl refl
mark_token Star rest h = begins 42 rest refl refl
mark_token End rest h = rw h nothing_left

-- a negative number begins with the minus mark
pub minus_token : (n : ℕ) (rest : List ℕ) → n < 2 ^ 128 → next (signed_text true n ++ rest) ≡ Some (mark Minus, signed_text false n ++ rest)
minus_token n rest lt = mark_token Minus (decimal n ++ rest) (digits_close (decimal n) rest (decimal_number n lt).digits (decimal_number n lt).some)
  where
    not_greater : (c : ℕ) → is_ascii_digit c ≡ true → (c == 62) ≡ false
    not_greater c e = grind (arith, nat_tests)

    digits_close : (ds rest : List ℕ) → digits_len ds ≡ length ds → 1 ≤ length ds → Stops (λ c. c == 62) (ds ++ rest)
    digits_close [] rest h le = absurd (omega (arith, le))
    digits_close (d ∷ ds) rest h le = not_greater d (first_passes is_ascii_digit d ds h)
