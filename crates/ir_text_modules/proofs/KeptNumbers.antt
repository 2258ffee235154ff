-- A number is parsed back, if the text after it doesn't extend a name.
use Rattle.std.proofs.Common.{◌≡◌, ℕ, zero, suc, ◌+◌, ◌-◌, ◌<◌, ◌≤◌, Bool, true, false, cond, ◌⊎◌, inl, inr, List, [], ◌∷◌, ◌++◌, length, take, drop, Option, Some, None, refl, sym, ap, subst, ◌∙◌, arith}
use Rattle.std.specs.Prelude.{◌==◌, ◌&&◌, ◌||◌, not, if◌then◌else◌}
use Rattle.std.specs.List.{prefix_len}
use Rattle.std.specs.Char.{is_ascii_digit}
use Rattle.std.proofs.lemmas.Bool.{and_parts, cases_Bool, eqb-true}
use Rattle.std.proofs.lemmas.Bool.Decides.{nat_tests}
use Rattle.std.proofs.lemmas.List.{drop-append-le, length-drop, take_at, drop_at}
use Rattle.std.proofs.lemmas.List.Sums.{prefix_len-le-length}
use Rattle.std.proofs.lemmas.Option.{some_pair_parts}
use Rattle.ir_text_tokens.specs.declared.token.Mark.TheVariants.{Minus}
use Rattle.ir_text_tokens.specs.Bytes.{is_blank, is_hex, is_suffix}
use Rattle.ir_text_tokens.specs.Printing.{Stops}
use Rattle.ir_text_tokens.proofs.Blanks.{skip_nothing}
use Rattle.ir_text_tokens.proofs.Printed.{mark_token}
use Rattle.ir_text_tokens.specs.Tokens.{Lexeme, mark, integer, float, first_token, next, skip, cut, decimal_at, digits_len, exponent_len, fraction_len, hex_len, number_at, sign_len}
use Rattle.ir_text_tokens.specs.Bodies.{begins}
use Rattle.ir_text_attributes.specs.OpaqueAttributes.{is_hexadecimal}
use Rattle.ir_text_modules.specs.KeptAttributes.{begins_digit}

-- ---- runs

-- a text that doesn't extend a name doesn't extend such a run
pub stops_as : (p : ℕ → Bool) (rest : List ℕ) → ((c : ℕ) → is_suffix c ≡ false → p c ≡ false) → Stops is_suffix rest → Stops p rest
stops_as p [] h s = tt
stops_as p (c ∷ cs) h s = h c s

pub run_stays : (p : ℕ → Bool) (w rest : List ℕ) → Stops p rest → prefix_len p (w ++ rest) ≡ prefix_len p w
run_stays p [] [] s = refl
run_stays p [] (c ∷ cs) s = rw s refl
run_stays p (c ∷ cs) rest s = elim (cases_Bool (p c)) [
  | inl t ↦ rw t (ap (λ n. 1 + n) (run_stays p cs rest s))
  | inr f ↦ rw f refl
]

pub no_digit : (c : ℕ) → is_suffix c ≡ false → is_ascii_digit c ≡ false
no_digit c s = grind (arith, nat_tests)

no_hex : (c : ℕ) → is_suffix c ≡ false → is_hex c ≡ false
no_hex c s = grind (arith, nat_tests)

pub digits_stay : (w rest : List ℕ) → Stops is_suffix rest → digits_len (w ++ rest) ≡ digits_len w
digits_stay w rest s = run_stays is_ascii_digit w rest (stops_as is_ascii_digit rest no_digit s)

-- ---- hexadecimal digits

no_x : (c : ℕ) → is_suffix c ≡ false → (c == 120) ≡ false
no_x c s = grind (arith, nat_tests)

no_zero : (c : ℕ) → is_suffix c ≡ false → (c == 48) ≡ false
no_zero c s = grind (arith, nat_tests)

pub hex_stays : (w rest : List ℕ) → Stops is_suffix rest → hex_len (w ++ rest) ≡ hex_len w
hex_stays [] [] s = refl
hex_stays [] (a ∷ []) s = refl
hex_stays [] (a ∷ b ∷ cs) s = rw (no_zero a s) refl
hex_stays (a ∷ []) [] s = refl
hex_stays (a ∷ []) (b ∷ cs) s = rw (no_x b s) (never (a == 48))
  where
    never : (t : Bool) → (if (t && false) && not (prefix_len is_hex cs == 0) then 2 + prefix_len is_hex cs else 0) ≡ 0
    never true = refl
    never false = refl
hex_stays (a ∷ b ∷ cs) rest s = rw (run_stays is_hex cs rest (stops_as is_hex rest no_hex s)) refl

-- ---- fractions up to the end of the text

no_exponent : (c : ℕ) → is_suffix c ≡ false → (c == 101 || c == 69) ≡ false
no_exponent c s = grind (arith, nat_tests)

pub no_dot : (c : ℕ) → is_suffix c ≡ false → (c == 46) ≡ false
no_dot c s = grind (arith, nat_tests)

no_exponent_there : (rest : List ℕ) → Stops is_suffix rest → exponent_len rest ≡ 0
unfolding exponent_len
no_exponent_there [] s = refl
no_exponent_there (c ∷ cs) s = rw (no_exponent c s) refl

-- an exponent up to the end is found again
exponent_stays : (w rest : List ℕ) → Stops is_suffix rest → exponent_len w ≡ length w → exponent_len (w ++ rest) ≡ exponent_len w
unfolding exponent_len
exponent_stays [] rest s e = no_exponent_there rest s
exponent_stays (c ∷ []) rest s e = absurd (short (c == 101 || c == 69) e)
  where
    short : (t : Bool) → (if t && not (0 == 0) then 1 + 0 + 0 else 0) ≡ 1 → ⊥
    short true e = absurd cc
    short false e = absurd cc
exponent_stays (c ∷ d ∷ ds) rest s e =
    let le : sign_len (d ∷ ds) ≤ length (d ∷ ds) = sign_small (d == 43 || d == 45) in
    let left : drop (sign_len (d ∷ ds)) (d ∷ ds ++ rest) ≡ drop (sign_len (d ∷ ds)) (d ∷ ds) ++ rest = drop-append-le (sign_len (d ∷ ds)) (d ∷ ds) rest le in
    let same : digits_len (drop (sign_len (d ∷ ds)) (d ∷ ds ++ rest)) ≡ digits_len (drop (sign_len (d ∷ ds)) (d ∷ ds)) = ap digits_len left ∙ digits_stay (drop (sign_len (d ∷ ds)) (d ∷ ds)) rest s in
    ap (λ n. if (c == 101 || c == 69) && not (n == 0) then 1 + sign_len (d ∷ ds) + n else 0) same
  where
    sign_small : (t : Bool) → (if t then 1 else 0) ≤ suc (length ds)
    sign_small true = omega arith
    sign_small false = omega arith

-- a fraction up to the end is found again
fraction_stays : (w rest : List ℕ) → Stops is_suffix rest → fraction_len w ≡ length w → fraction_len (w ++ rest) ≡ fraction_len w
unfolding fraction_len
fraction_stays [] rest s e = none rest s
  where
    none : (rest : List ℕ) → Stops is_suffix rest → fraction_len rest ≡ 0
    none [] s = refl
    none (c ∷ cs) s = rw (no_dot c s) refl
fraction_stays (c ∷ cs) rest s e = by (c == 46) refl e
  where
    n : ℕ
    n = digits_len cs

    by : (t : Bool) → (c == 46) ≡ t → (if t then 1 + n + exponent_len (drop n cs) else 0) ≡ suc (length cs)
        → (if t then 1 + digits_len (cs ++ rest) + exponent_len (drop (digits_len (cs ++ rest)) (cs ++ rest)) else 0) ≡ (if t then 1 + n + exponent_len (drop n cs) else 0)
    by false k e = refl
    by true k e =
        let le : n ≤ length cs = prefix_len-le-length is_ascii_digit cs in
        let few : length (drop n cs) + n ≡ length cs = omega (arith, le, length-drop n cs) in
        let whole : exponent_len (drop n cs) ≡ length (drop n cs) = omega (arith, e, few) in
        let run = digits_stay cs rest s in
        let left : drop (digits_len (cs ++ rest)) (cs ++ rest) ≡ drop n cs ++ rest = ap (λ m. drop m (cs ++ rest)) run ∙ drop-append-le n cs rest le in
        let exponent : exponent_len (drop (digits_len (cs ++ rest)) (cs ++ rest)) ≡ exponent_len (drop n cs) = ap exponent_len left ∙ exponent_stays (drop n cs) rest s whole in
        λ i. 1 + run i + exponent i

-- ---- numbers

exponent_within : (w : List ℕ) → exponent_len w ≤ length w
unfolding exponent_len
exponent_within [] = omega arith
exponent_within (c ∷ cs) = by ((c == 101 || c == 69) && not (digits_len (drop (sign_len cs) cs) == 0))
  where
    sign_small : (l : List ℕ) → sign_len l ≤ length l
    sign_small [] = omega arith
    sign_small (d ∷ ds) = one (d == 43 || d == 45)
      where
        one : (t : Bool) → (if t then 1 else 0) ≤ suc (length ds)
        one true = omega arith
        one false = omega arith

    by : (t : Bool) → (if t then 1 + sign_len cs + digits_len (drop (sign_len cs) cs) else 0) ≤ suc (length cs)
    by false = omega arith
    by true =
        let few = prefix_len-le-length is_ascii_digit (drop (sign_len cs) cs) in
        omega (arith, few, length-drop (sign_len cs) cs, sign_small cs)

fraction_within : (w : List ℕ) → fraction_len w ≤ length w
unfolding fraction_len
fraction_within [] = omega arith
fraction_within (c ∷ cs) = by (c == 46)
  where
    by : (t : Bool) → (if t then 1 + digits_len cs + exponent_len (drop (digits_len cs) cs) else 0) ≤ suc (length cs)
    by false = omega arith
    by true = omega (arith, exponent_within (drop (digits_len cs) cs), length-drop (digits_len cs) cs, prefix_len-le-length is_ascii_digit cs)

-- a float that is the whole text
abbrev decimals : List ℕ → ℕ
decimals w = digits_len w + fraction_len (drop (digits_len w) w)

float_found : (w rest : List ℕ) → Stops is_suffix rest → (hex_len w == 0) ≡ true → (fraction_len (drop (digits_len w) w) == 0) ≡ false → drop (decimals w) w ≡ [] → number_at (w ++ rest) ≡ Some (float w, rest)
unfolding number_at
float_found w rest s hex some left =
    let n = digits_len w in
    let le : n ≤ length w = prefix_len-le-length is_ascii_digit w in
    let few = length-drop n w in
    let within = fraction_within (drop n w) in
    let end : length w - decimals w ≡ 0 = sym (length-drop (decimals w) w) ∙ ap length left in
    let all : decimals w ≡ length w = omega (arith, le, few, within, end) in
    let whole : fraction_len (drop n w) ≡ length (drop n w) = omega (arith, all, few, le) in
    let run : digits_len (w ++ rest) ≡ n = digits_stay w rest s in
    let trailing : drop (digits_len (w ++ rest)) (w ++ rest) ≡ drop n w ++ rest = ap (λ m. drop m (w ++ rest)) run ∙ drop-append-le n w rest le in
    let fraction : fraction_len (drop (digits_len (w ++ rest)) (w ++ rest)) ≡ fraction_len (drop n w) = ap fraction_len trailing ∙ fraction_stays (drop n w) rest s whole in
    let hex_again : (hex_len (w ++ rest) == 0) ≡ true = ap (λ m. m == 0) (hex_stays w rest s) ∙ hex in
    let some_again : (fraction_len (drop (digits_len (w ++ rest)) (w ++ rest)) == 0) ≡ false = ap (λ m. m == 0) fraction ∙ some in
    let count : digits_len (w ++ rest) + fraction_len (drop (digits_len (w ++ rest)) (w ++ rest)) ≡ length w = (λ i. run i + fraction i) ∙ all in
    rw (hex_again, some_again, count, take_at w rest (length w) refl, drop_at w rest (length w) refl) refl

pub digit_next : (c : ℕ) (cs : List ℕ) → is_ascii_digit c ≡ true → next (c ∷ cs) ≡ number_at (c ∷ cs)
unfolding next
digit_next c cs e =
    let slash : (c == 47) ≡ false = grind (arith, nat_tests) in
    let blank : is_blank c ≡ false = grind (arith, nat_tests) in
    ap first_token (skip_nothing c cs slash blank) ∙ rw e refl

integers_apart : (a b : List ℕ) → integer a ≡ float b → ⊥
integers_apart a b e = absurd cc

number_float : (w rest : List ℕ) → Stops is_suffix rest → number_at w ≡ Some (float w, []) → number_at (w ++ rest) ≡ Some (float w, rest)
unfolding number_at
number_float w rest s e = by (hex_len w == 0) refl (fraction_len (drop (digits_len w) w) == 0) refl e
  where
    by : (h : Bool) → (hex_len w == 0) ≡ h → (f : Bool) → (fraction_len (drop (digits_len w) w) == 0) ≡ f
        → (if h then (if f then cut integer (digits_len w) w else cut float (decimals w) w) else cut integer (hex_len w) w) ≡ Some (float w, []) → number_at (w ++ rest) ≡ Some (float w, rest)
    by false h f k m = absurd (integers_apart (take (hex_len w) w) w (some_pair_parts (integer (take (hex_len w) w)) (float w) (drop (hex_len w) w) [] m).0)
    by true h true k m = absurd (integers_apart (take (digits_len w) w) w (some_pair_parts (integer (take (digits_len w) w)) (float w) (drop (digits_len w) w) [] m).0)
    by true h false k m = float_found w rest s h k (some_pair_parts (float (take (decimals w) w)) (float w) (drop (decimals w) w) [] m).1

-- hexadecimal digits that are the whole text
hex_within : (w : List ℕ) → hex_len w ≤ length w
hex_within [] = omega arith
hex_within (a ∷ []) = omega arith
hex_within (a ∷ b ∷ cs) = by ((a == 48 && b == 120) && not (prefix_len is_hex cs == 0))
  where
    by : (t : Bool) → (if t then 2 + prefix_len is_hex cs else 0) ≤ suc (suc (length cs))
    by true = let few = prefix_len-le-length is_hex cs in omega (arith, few)
    by false = omega arith

hex_found : (w rest : List ℕ) → Stops is_suffix rest → (hex_len w == 0) ≡ false → drop (hex_len w) w ≡ [] → number_at (w ++ rest) ≡ Some (integer w, rest)
unfolding number_at
hex_found w rest s hex left =
    let within = hex_within w in
    let end : length w - hex_len w ≡ 0 = sym (length-drop (hex_len w) w) ∙ ap length left in
    let all : hex_len w ≡ length w = omega (arith, within, end) in
    let hex_again : (hex_len (w ++ rest) == 0) ≡ false = ap (λ m. m == 0) (hex_stays w rest s) ∙ hex in
    let count : hex_len (w ++ rest) ≡ length w = hex_stays w rest s ∙ all in
    rw (hex_again, count, take_at w rest (length w) refl, drop_at w rest (length w) refl) refl

-- decimal digits are no hexadecimal number
one_digit : (w : List ℕ) → is_hexadecimal w ≡ true → drop (digits_len w) w ≡ [] → ⊥
one_digit [] h e = absurd cc
one_digit (a ∷ []) h e = absurd (none (a == 48) h)
  where
    none : (t : Bool) → (t && false) ≡ true → ⊥
    none true e = absurd cc
    none false e = absurd cc
one_digit (a ∷ b ∷ cs) h e =
    let p = and_parts (a == 48) (b == 120) h in
    let is : a ∷ b ∷ cs ≡ 48 ∷ 120 ∷ cs = λ i. eqb-true a 48 p.0 i ∷ eqb-true b 120 p.1 i ∷ cs in
    left cs (ap (λ w. drop (digits_len w) w) (sym is) ∙ e)
  where
    left : (cs : List ℕ) → drop (digits_len (48 ∷ 120 ∷ cs)) (48 ∷ 120 ∷ cs) ≡ [] → ⊥
    left cs e = absurd cc

number_hex : (w rest : List ℕ) → Stops is_suffix rest → is_hexadecimal w ≡ true → number_at w ≡ Some (integer w, []) → number_at (w ++ rest) ≡ Some (integer w, rest)
unfolding number_at
number_hex w rest s x e = by (hex_len w == 0) refl (fraction_len (drop (digits_len w) w) == 0) refl e
  where
    by : (h : Bool) → (hex_len w == 0) ≡ h → (f : Bool) → (fraction_len (drop (digits_len w) w) == 0) ≡ f
        → (if h then (if f then cut integer (digits_len w) w else cut float (decimals w) w) else cut integer (hex_len w) w) ≡ Some (integer w, []) → number_at (w ++ rest) ≡ Some (integer w, rest)
    by false h f k m = hex_found w rest s h (some_pair_parts (integer (take (hex_len w) w)) (integer w) (drop (hex_len w) w) [] m).1
    by true h true k m = absurd (one_digit w x (some_pair_parts (integer (take (digits_len w) w)) (integer w) (drop (digits_len w) w) [] m).1)
    by true h false k m = absurd (integers_apart w (take (decimals w) w) (sym (some_pair_parts (float (take (decimals w) w)) (integer w) (drop (decimals w) w) [] m).0))

pub hex_digit : (w : List ℕ) → is_hexadecimal w ≡ true → begins_digit w ≡ true
hex_digit [] h = absurd cc
hex_digit (c ∷ cs) h = ap is_ascii_digit (eqb-true c 48 (and_parts (c == 48) (begins 120 cs) h).0)

pub hex_again : (w rest : List ℕ) → is_hexadecimal w ≡ true → Stops is_suffix rest → next w ≡ Some (integer w, []) → next (w ++ rest) ≡ Some (integer w, rest)
hex_again [] rest h s e = absurd cc
hex_again (c ∷ cs) rest h s e = let d = hex_digit (c ∷ cs) h in digit_next c (cs ++ rest) d ∙ number_hex (c ∷ cs) rest s h (sym (digit_next c cs d) ∙ e)

pub float_again : (w rest : List ℕ) → begins_digit w ≡ true → Stops is_suffix rest → next w ≡ Some (float w, []) → next (w ++ rest) ≡ Some (float w, rest)
float_again [] rest d s e = absurd cc
float_again (c ∷ cs) rest d s e = digit_next c (cs ++ rest) d ∙ number_float (c ∷ cs) rest s (sym (digit_next c cs d) ∙ e)

-- a number after a minus sign
pub minus_next : (w rest : List ℕ) → begins_digit w ≡ true → next (45 ∷ w ++ rest) ≡ Some (mark Minus, w ++ rest)
minus_next [] rest d = absurd cc
minus_next (c ∷ cs) rest d = mark_token Minus (c ∷ cs ++ rest) (no_arrow c d)
  where
    no_arrow : (c : ℕ) → is_ascii_digit c ≡ true → (c == 62) ≡ false
    no_arrow c e = grind (arith, nat_tests)
