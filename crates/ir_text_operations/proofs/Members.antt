-- Indexes of values in a pack.
use Rattle.std.specs.Prelude.{◌&&◌, ◌==◌, slice_get}
use Rattle.std.specs.List.{list_all}
use Rattle.std.specs.Char.{is_ascii_digit}
use Rattle.std.proofs.Common.{◌≡◌, ◌^◌, ◌<◌, ◌≤◌, ℕ, Bool, true, false, true≢false, List, [], ◌∷◌, length, Some, None, refl, sym, ap, subst, ◌∙◌, arith}
use Rattle.std.proofs.lemmas.Bool.{eqb-true, and_parts}
use Rattle.std.proofs.lemmas.Bool.Decides.{nat_tests}
use Rattle.std.proofs.lemmas.Option.{slice_get_past}
use Rattle.ir_text_tokens.specs.Numbers.{place_value, begins_hex, integer_of, below_limit}
use Rattle.ir_text_operations.specs.Free.{small}
use Rattle.ir_text_types.proofs.Widths.{limit_is}

second_is : (x y : Bool) → (y ≡ true → ⊥) → (x && y) ≡ false
second_is false y h = refl
second_is true false h = refl
second_is true true h = absurd (h refl)

no_digit : (b : ℕ) → is_ascii_digit b ≡ true → (b == 120) ≡ true → ⊥
no_digit b h e =
    let same = eqb-true b 120 e in
    true≢false (sym h ∙ ap is_ascii_digit same)

-- decimal digits begin no hexadecimal number
no_hex : (ds : List ℕ) → list_all is_ascii_digit ds ≡ true → begins_hex ds ≡ false
no_hex [] h = refl
no_hex (a ∷ []) h = refl
no_hex (a ∷ b ∷ ds) h =
    let rest = (and_parts (is_ascii_digit a) (list_all is_ascii_digit (b ∷ ds)) h).1 in
    second_is (a == 48) (b == 120) (no_digit b (and_parts (is_ascii_digit b) (list_all is_ascii_digit ds) rest).0)

-- the digits denote their decimal number
pub decimal : (ds : List ℕ) → list_all is_ascii_digit ds ≡ true → integer_of ds ≡ place_value 10 ds
decimal ds h = rw (no_hex ds h) refl

limit_passed : (n : ℕ) → below_limit n ≡ None → 2 ^ 128 ≤ n
limit_passed n e = grind (arith, nat_tests)

-- no pack has more values than the limit of numbers
pub past_limit : {A : Type 0} (xs : List A) (ds : List ℕ) → list_all is_ascii_digit ds ≡ true → length xs < 2 ^ 128 → below_limit (integer_of ds) ≡ None → slice_get xs (place_value 10 ds) ≡ None
past_limit xs ds h few e = slice_get_past xs (place_value 10 ds) (omega (arith, few, limit_passed (integer_of ds) e, decimal ds h))

pub past_all : {A : Type 0} (xs : List A) (ds : List ℕ) (k : ℕ) → list_all is_ascii_digit ds ≡ true → below_limit (integer_of ds) ≡ Some k → length xs ≤ k → slice_get xs (place_value 10 ds) ≡ None
past_all xs ds k h e le = slice_get_past xs (place_value 10 ds) (omega (arith, le, limit_is (integer_of ds) k e, decimal ds h))

pub place_is : (ds : List ℕ) (k : ℕ) → list_all is_ascii_digit ds ≡ true → below_limit (integer_of ds) ≡ Some k → k ≡ place_value 10 ds
place_is ds k h e = sym (limit_is (integer_of ds) k e) ∙ decimal ds h

-- a number within an id's limit, in both definitions
pub small_is : (ds : List ℕ) (k : ℕ) → list_all is_ascii_digit ds ≡ true → below_limit (integer_of ds) ≡ Some k → small k ≡ small (place_value 10 ds)
small_is ds k h e = ap small (place_is ds k h e)

pub small_passed : (ds : List ℕ) → list_all is_ascii_digit ds ≡ true → below_limit (integer_of ds) ≡ None → small (place_value 10 ds) ≡ None
small_passed ds h e =
    let big : 2 ^ 128 ≤ place_value 10 ds = subst (λ n. 2 ^ 128 ≤ n) (decimal ds h) (limit_passed (integer_of ds) e) in
    grind (arith, nat_tests)
