-- A printed decimal number is read again.
use Rattle.std.proofs.Common.{◌≡◌, ℕ, suc, ◌+◌, ◌*◌, ◌/◌, ◌%◌, ◌^◌, ◌<◌, ◌≤◌, Bool, true, false, eqb, List, [], ◌∷◌, ◌++◌, length, Some, refl, ap, ◌∙◌, arith, inl, inr}
use Rattle.std.specs.Prelude.{◌==◌, ◌&&◌}
use Rattle.std.specs.List.{prefix_len}
use Rattle.std.specs.Char.{is_ascii_digit}
use Rattle.std.specs.Fmt.{decimal}
use Rattle.std.proofs.lemmas.Bool.Decides.{nat_tests}
use Rattle.std.proofs.lemmas.Fmt.{decimal_by_steps_wide}
use Rattle.std.proofs.lemmas.List.{length-append, take_at, drop_at}
use Rattle.std.proofs.lemmas.List.Folds.{prefix_len-append}
use Rattle.std.proofs.Math.Nat.{pow-zero, pow-succ', add-mul, mul_assoc, mul_comm}
use Rattle.ir_text_tokens.specs.Strings.{hex_value}
use Rattle.ir_text_tokens.specs.Tokens.{digits_len, hex_len, fraction_len, integer, number_at}
use Rattle.ir_text_tokens.specs.Numbers.{place_value, begins_hex, integer_of}
use Rattle.ir_text_tokens.specs.Printing.{Stops, extends_integer}
use Rattle.std.proofs.lemmas.Bool.{and_right, cases_Bool}

pub eqb_self : (n : ℕ) → eqb n n ≡ true
eqb_self n = grind (arith, nat_tests)

-- ---- runs

no_run : (p : ℕ → Bool) (rest : List ℕ) → Stops p rest → prefix_len p rest ≡ 0
no_run p [] h = refl
no_run p (c ∷ cs) h = rw h refl

-- a run ends at a byte outside the class
pub run_ends : (p : ℕ → Bool) (w rest : List ℕ) → prefix_len p w ≡ length w → Stops p rest → prefix_len p (w ++ rest) ≡ length w
run_ends p w rest h s = rw (prefix_len-append, h, eqb_self (length w), no_run p rest s) (omega arith)

pub first_passes : (p : ℕ → Bool) (b : ℕ) (bs : List ℕ) → prefix_len p (b ∷ bs) ≡ length (b ∷ bs) → p b ≡ true
first_passes p b bs h = elim (cases_Bool (p b)) [
  | inl e ↦ e
  | inr e ↦ let z : prefix_len p (b ∷ bs) ≡ 0 = rw e refl in absurd (omega arith)
]

pub rest_passes : (p : ℕ → Bool) (b : ℕ) (bs : List ℕ) → prefix_len p (b ∷ bs) ≡ length (b ∷ bs) → prefix_len p bs ≡ length bs
rest_passes p b bs h =
    let e = first_passes p b bs h in
    let z : prefix_len p (b ∷ bs) ≡ 1 + prefix_len p bs = rw e refl in
    omega arith

pub run_push : (p : ℕ → Bool) (ds : List ℕ) (c : ℕ) → prefix_len p ds ≡ length ds → p c ≡ true → prefix_len p (ds ++ c ∷ []) ≡ length (ds ++ c ∷ [])
run_push p ds c h e =
    let one : prefix_len p (c ∷ []) ≡ 1 = rw e refl in
    rw (prefix_len-append, h, length-append, eqb_self (length ds), one) refl

-- ---- the value

digit_byte : (d : ℕ) → d < 10 → is_ascii_digit (48 + d) ≡ true
digit_byte d lt = grind (arith, nat_tests)

digit_value : (d : ℕ) → d < 10 → hex_value (48 + d) ≡ d
digit_value d lt = rw (digit_byte d lt) (omega arith)

one_place : (base d : ℕ) → place_value base (d ∷ []) ≡ hex_value d
unfolding place_value
one_place base d = let e : base ^ 0 ≡ 1 = pow-zero base in rw e (omega arith)

place_push : (base : ℕ) (ds : List ℕ) (d : ℕ) → place_value base (ds ++ d ∷ []) ≡ place_value base ds * base + hex_value d
unfolding place_value
place_push base [] d = let e : base ^ 0 ≡ 1 = pow-zero base in rw e (omega arith)
place_push base (x ∷ xs) d =
    let h = hex_value x in
    let p = base ^ length xs in
    let l : length (xs ++ d ∷ []) ≡ suc (length xs) = length-append xs (d ∷ []) ∙ omega arith in
    let e : base ^ length (xs ++ d ∷ []) ≡ p * base = ap (λ n. base ^ n) l ∙ pow-succ' base (length xs) ∙ mul_comm base p in
    let f : (h * p + place_value base xs) * base ≡ h * p * base + place_value base xs * base = add-mul (h * p) (place_value base xs) base in
    let k : h * p * base ≡ h * (p * base) = mul_assoc h p base in
    rw (e, place_push base xs d, f, k) (omega arith)

pub record Number (n : ℕ) (ds : List ℕ) : Type 0 where
  pub some : 1 ≤ length ds
  pub digits : digits_len ds ≡ length ds
  pub value : place_value 10 ds ≡ n

number_one : (n : ℕ) → n < 10 → Number n ((48 + n) ∷ [])
number_one n lt = record { some = omega arith; digits = rw (digit_byte n lt) refl; value = one_place 10 (48 + n) ∙ digit_value n lt }

number_more : (n : ℕ) (ds : List ℕ) → 10 ≤ n → Number (n / 10) ds → Number n (ds ++ (48 + n % 10) ∷ [])
number_more n ds ge h = record {
  some = omega (arith, length-append ds ((48 + n % 10) ∷ []));
  digits = run_push is_ascii_digit ds (48 + n % 10) h.digits (digit_byte (n % 10) (omega arith));
  value = place_push 10 ds (48 + n % 10) ∙ rw (h.value, digit_value (n % 10) (omega arith)) (omega arith);
}

pub decimal_number : (n : ℕ) → n < 2 ^ 128 → Number n (decimal n)
decimal_number n lt = decimal_by_steps_wide Number number_one number_more n (omega (arith, lt))

-- ---- digits begin no hexadecimal number

pub not_x : (c : ℕ) → is_ascii_digit c ≡ true → (c == 120) ≡ false
not_x c e = grind (arith, nat_tests)

extends_x : (c : ℕ) → extends_integer c ≡ false → (c == 120) ≡ false
extends_x c e = grind (arith, nat_tests)

extends_dot : (c : ℕ) → extends_integer c ≡ false → (c == 46) ≡ false
extends_dot c e = grind (arith, nat_tests)

extends_digit : (c : ℕ) → extends_integer c ≡ false → is_ascii_digit c ≡ false
extends_digit c e = elim (cases_Bool (is_ascii_digit c)) [
  | inl t ↦ let z : extends_integer c ≡ true = rw t refl in absurd cc
  | inr f ↦ f
]

no_hex : (ds : List ℕ) → digits_len ds ≡ length ds → begins_hex ds ≡ false
no_hex [] h = refl
no_hex (a ∷ []) h = refl
no_hex (a ∷ b ∷ ds) h = and_right (a == 48) (b == 120) (not_x b (first_passes is_ascii_digit b ds (rest_passes is_ascii_digit a (b ∷ ds) h)))

no_hex_len : (a b : ℕ) (cs : List ℕ) → (b == 120) ≡ false → hex_len (a ∷ b ∷ cs) ≡ 0
no_hex_len a b cs e = rw (and_right (a == 48) (b == 120) e) refl

no_hex_token : (ds rest : List ℕ) → digits_len ds ≡ length ds → 1 ≤ length ds → Stops extends_integer rest → hex_len (ds ++ rest) ≡ 0
no_hex_token [] rest h le s = absurd (omega (arith, le))
no_hex_token (a ∷ []) [] h le s = refl
no_hex_token (a ∷ []) (c ∷ cs) h le s = no_hex_len a c cs (extends_x c s)
no_hex_token (a ∷ b ∷ ds) rest h le s = no_hex_len a b (ds ++ rest) (not_x b (first_passes is_ascii_digit b ds (rest_passes is_ascii_digit a (b ∷ ds) h)))

no_fraction : (rest : List ℕ) → Stops extends_integer rest → fraction_len rest ≡ 0
unfolding fraction_len
no_fraction [] s = refl
no_fraction (c ∷ cs) s = rw (extends_dot c s) refl

stops_digit : (rest : List ℕ) → Stops extends_integer rest → Stops is_ascii_digit rest
stops_digit [] s = tt
stops_digit (c ∷ cs) s = extends_digit c s

-- ---- the token

pub number_again : (ds rest : List ℕ) → digits_len ds ≡ length ds → 1 ≤ length ds → Stops extends_integer rest → number_at (ds ++ rest) ≡ Some (integer ds, rest)
unfolding number_at
number_again ds rest h le s =
    let len : digits_len (ds ++ rest) ≡ length ds = run_ends is_ascii_digit ds rest h (stops_digit rest s) in
    rw (no_hex_token ds rest h le s, len, drop_at ds rest (length ds) refl, no_fraction rest s, take_at ds rest (length ds) refl) refl

pub integer_again : (n : ℕ) → n < 2 ^ 128 → integer_of (decimal n) ≡ n
integer_again n lt = rw (no_hex (decimal n) (decimal_number n lt).digits) (decimal_number n lt).value
