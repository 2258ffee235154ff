-- The value of digits, computed digit by digit.
use Rattle.std.proofs.Common.{◌≡◌, ℕ, ◌+◌, ◌*◌, ◌-◌, ◌^◌, get_or, take, drop, ◌<◌, ◌≤◌, List, [], ◌∷◌, length, Some, None, refl, ap, arith}
use Rattle.std.proofs.lemmas.Grind.{common_steps}
use Rattle.std.proofs.Math.Nat.{pow-zero, pow-succ', one-le-pow, le-mul_of_pos_right, add-mul, mul_assoc}
use Rattle.ir_text_tokens.specs.Strings.{hex_value}
use Rattle.ir_text_tokens.specs.Numbers.{below_limit, place_value}

-- one more digit
pub with_place : (base n d : ℕ) (ds : List ℕ) → (n * base + hex_value d) * base ^ length ds + place_value base ds ≡ n * base ^ length (d ∷ ds) + place_value base (d ∷ ds)
unfolding place_value
with_place base n d ds =
    let p = base ^ length ds in
    let e : base ^ length (d ∷ ds) ≡ base * p = pow-succ' base (length ds) in
    let f : (n * base + hex_value d) * p ≡ n * base * p + hex_value d * p = add-mul (n * base) (hex_value d) p in
    let g : n * base * p ≡ n * (base * p) = mul_assoc n base p in
    rw (f, g, e) (omega arith)

-- a value over 128 bits stays over 128 bits
pub stays_big : (base n k v : ℕ) → 1 ≤ base → 2 ^ 128 ≤ n → below_limit (n * base ^ k + v) ≡ None
stays_big base n k v pos big =
    let p : 1 ≤ base ^ k = one-le-pow k base pos in
    let q : n ≤ n * base ^ k = le-mul_of_pos_right n p in
    grind (arith, common_steps)

tail_is : (d : ℕ) (ds : List ℕ) → take (length (d ∷ ds) - 1) ds ≡ ds
tail_is d ds =
    let e : length (d ∷ ds) - 1 ≡ length ds = omega arith in
    rw e (take_at_length ds)
  where
    take_at_length : (xs : List ℕ) → take (length xs) xs ≡ xs
    take_at_length [] = refl
    take_at_length (x ∷ xs) = ap (λ l. x ∷ l) (take_at_length xs)

-- the digits that are left, as the first and the others
pub next_place : (base n : ℕ) (rest : List ℕ) → 1 ≤ length rest
    → (n * base + hex_value (get_or rest 0 0)) * base ^ length (take (length rest - 1) (drop 1 rest)) + place_value base (take (length rest - 1) (drop 1 rest)) ≡ n * base ^ length rest + place_value base rest
next_place base n [] le = absurd (omega (arith, le))
next_place base n (d ∷ ds) le = rw (tail_is d ds) (with_place base n d ds)

pub no_places : (base n : ℕ) (rest : List ℕ) → length rest < 1 → n * base ^ length rest + place_value base rest ≡ n
unfolding place_value
no_places base n [] lt =
    let e : base ^ 0 ≡ 1 = pow-zero base in
    rw e (omega arith)
no_places base n (d ∷ ds) lt = absurd (omega (arith, lt))

pub is_below : (n : ℕ) → n < 2 ^ 128 → below_limit n ≡ Some n
is_below n lt = grind (arith, common_steps)
