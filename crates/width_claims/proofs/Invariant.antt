-- The values that steps keep after the first bits of their numbers.
use Rattle.std.proofs.Common.{◌≡◌, ◌∙◌, ℕ, zero, suc, ◌+◌, ◌-◌, ◌*◌, ◌/◌, ◌%◌, ◌^◌, ◌<◌, ◌==◌, min, max, List, [], ◌∷◌, map, Bool, true, false, true≢false, nat_lt, if◌then◌else◌, refl, sym, ap, arith}
use Rattle.std.specs.Int.{bit_at}
use Rattle.std.proofs.lemmas.Bool.{eqb-true}
use Rattle.std.proofs.lemmas.Bool.Decides.{nat_tests}
use Rattle.std.proofs.lemmas.Nat.{and_le_l, or_lt, xor_lt, pow_pos}
use Rattle.std.proofs.lemmas.Nat.Bits.{bit_at-zero, bit_at_and, bit_at_or, bit_at_xor}
use Rattle.std.proofs.Math.Nat.{div-div-eq-div-mul, div-le_self, mod-eq_of_lt, pow-suc}
use Rattle.width_claims.specs.declared.step.Step.{Step}
use Rattle.width_claims.specs.declared.step.Step.TheVariants as step
use Rattle.width_claims.specs.Steps.{is_number, number_at, supposed_of, truth_at, truth_of, value_of}
use Rattle.width_claims.specs.BitSerial.{agrees, bit_of, end_truth, first_digit, less_still, loses, next_of, next_quotient, radix, reads_bit, same_still}
use Rattle.width_claims.proofs.Quotients.{after_below, after_first, after_next, not_too_great, ones_bit, quotient_after, quotient_right}
use Rattle.width_claims.proofs.Numbers.{bit_within, carry_below, difference_bit, less, less_bits, low_below, same, same_bits, sum_bit, sum_next}

-- the value after the first k bits
abbrev pub kept : ℕ → Step → ℕ → List ℕ → ℕ
kept k (step.Literal n) v ns = n / 2 ^ k
kept k (step.Ones u) v ns = u - k
kept k (step.Quotient i n) v ns = quotient_after k n v (number_at ns i)
kept k (step.Add i j) v ns = (number_at ns i % 2 ^ k + number_at ns j % 2 ^ k) / 2 ^ k
kept k (step.Subtract i j) v ns = less (number_at ns i % 2 ^ k) (number_at ns j % 2 ^ k)
kept k (step.Select t i j) v ns = same (v % 2 ^ k) (number_at ns i % 2 ^ k) + 2 * same (v % 2 ^ k) (number_at ns j % 2 ^ k)
kept k (step.Equal i j) v ns = same (number_at ns i % 2 ^ k) (number_at ns j % 2 ^ k)
kept k (step.Suppose i j) v ns = same (number_at ns i % 2 ^ k) (number_at ns j % 2 ^ k)
kept k (step.Less i j) v ns = less (number_at ns i % 2 ^ k) (number_at ns j % 2 ^ k)
kept k _ v ns = 0

-- the bits at one place of all numbers
abbrev pub bits : ℕ → List ℕ → List ℕ
bits k ns = map (λ n. bit_at n k) ns

pub bit_there : (k : ℕ) (ns : List ℕ) (i : ℕ) → number_at (bits k ns) i ≡ bit_at (number_at ns i) k
bit_there k [] i = sym (bit_at-zero k)
bit_there k (n ∷ ns) zero = refl
bit_there k (n ∷ ns) (suc i) = bit_there k ns i

-- all are below 2^w
abbrev pub AreLow : ℕ → List ℕ → Type 0
AreLow w ns = (i : ℕ) → number_at ns i < 2 ^ w

-- ---- its range

bit_small : (a b : ℕ) → same a b < 2
bit_small a b = grind (arith, nat_tests)

less_small : (a b : ℕ) → less a b < 2
less_small a b = grind (arith, nat_tests)

pub kept_below : (k : ℕ) (s : Step) (v : ℕ) (ns : List ℕ) → kept k s v ns < radix s
kept_below k (step.Literal n) v ns = let h = div-le_self n (2 ^ k) in omega (arith, h)
kept_below k (step.Ones u) v ns = omega arith
kept_below k (step.Quotient i n) v ns = after_below k n v (number_at ns i)
kept_below k (step.Add i j) v ns = carry_below (number_at ns i) (number_at ns j) k
kept_below k (step.Subtract i j) v ns = less_small (number_at ns i % 2 ^ k) (number_at ns j % 2 ^ k)
kept_below k (step.Select t i j) v ns =
    let x = bit_small (v % 2 ^ k) (number_at ns i % 2 ^ k) in
    let y = bit_small (v % 2 ^ k) (number_at ns j % 2 ^ k) in
    omega (arith, x, y)
kept_below k (step.Equal i j) v ns = bit_small (number_at ns i % 2 ^ k) (number_at ns j % 2 ^ k)
kept_below k (step.Suppose i j) v ns = bit_small (number_at ns i % 2 ^ k) (number_at ns j % 2 ^ k)
kept_below k (step.Less i j) v ns = less_small (number_at ns i % 2 ^ k) (number_at ns j % 2 ^ k)
kept_below k _ v ns = omega arith

-- ---- before the first bit
pub kept_first : (s : Step) (v : ℕ) (ns : List ℕ) → kept 0 s v ns ≡ first_digit s
kept_first (step.Literal n) v ns = omega arith
kept_first (step.Ones u) v ns = omega arith
kept_first (step.Quotient i n) v ns = after_first n v (number_at ns i)
kept_first (step.Add i j) v ns = omega arith
kept_first (step.Subtract i j) v ns = none (number_at ns i) (number_at ns j)
  where
    none : (a b : ℕ) → less (a % 1) (b % 1) ≡ 0
    none a b = grind (arith, nat_tests)
kept_first (step.Select t i j) v ns = all v (number_at ns i) (number_at ns j)
  where
    all : (v a b : ℕ) → same (v % 1) (a % 1) + 2 * same (v % 1) (b % 1) ≡ 3
    all v a b = grind (arith, nat_tests)
kept_first (step.Equal i j) v ns = one (number_at ns i) (number_at ns j)
  where
    one : (a b : ℕ) → same (a % 1) (b % 1) ≡ 1
    one a b = grind (arith, nat_tests)
kept_first (step.Suppose i j) v ns = one (number_at ns i) (number_at ns j)
  where
    one : (a b : ℕ) → same (a % 1) (b % 1) ≡ 1
    one a b = grind (arith, nat_tests)
kept_first (step.Less i j) v ns = none (number_at ns i) (number_at ns j)
  where
    none : (a b : ℕ) → less (a % 1) (b % 1) ≡ 0
    none a b = grind (arith, nat_tests)
kept_first _ v ns = refl

-- ---- from bit to bit
module _ (w : ℕ) (vs : List ℕ) (k : ℕ) (within : k < w) where
  pub bit_is : (s : Step) (g : ℕ) (ns : List ℕ) (ts : List Bool) → is_number s ≡ true → AreLow w ns → (reads_bit s ≡ true → g ≡ bit_at (value_of w vs s ns ts) k)
      → bit_of s (kept k s (value_of w vs s ns ts) ns) g (bits k ns) ≡ bit_at (value_of w vs s ns ts) k
  bit_is (step.Variable i) g ns ts is low guess = guess refl
  bit_is (step.Literal n) g ns ts is low guess = sym (bit_within n k w within)
  bit_is (step.Ones u) g ns ts is low guess = ones_bit u k ∙ sym (bit_within (2 ^ u - 1) k w within)
  bit_is (step.Quotient i n) g ns ts is low guess = guess refl
  bit_is (step.And i j) g ns ts is low guess = (λ t. min (bit_there k ns i t) (bit_there k ns j t)) ∙ sym (bit_at_and (number_at ns i) (number_at ns j) k)
  bit_is (step.Or i j) g ns ts is low guess = (λ t. max (bit_there k ns i t) (bit_there k ns j t)) ∙ sym (bit_at_or (number_at ns i) (number_at ns j) k)
  bit_is (step.ExclusiveOr i j) g ns ts is low guess = (λ t. (bit_there k ns i t + bit_there k ns j t) % 2) ∙ sym (bit_at_xor (number_at ns i) (number_at ns j) k)
  bit_is (step.Add i j) g ns ts is low guess =
      (λ t. (bit_there k ns i t + bit_there k ns j t + kept k (step.Add i j) 0 ns) % 2) ∙ sym (sum_bit (number_at ns i) (number_at ns j) k) ∙ sym (bit_within (number_at ns i + number_at ns j) k w within)
  bit_is (step.Subtract i j) g ns ts is low guess =
      (λ t. (bit_there k ns i t + bit_there k ns j t + kept k (step.Subtract i j) 0 ns) % 2) ∙ sym (difference_bit (number_at ns i) (number_at ns j) k w within (low j))
      ∙ sym (bit_within (number_at ns i + (2 ^ w - number_at ns j)) k w within)
  bit_is (step.Select t i j) g ns ts is low guess = guess refl
  bit_is _ g ns ts is low guess = absurd (true≢false (sym is))

  two_parts : (a b : ℕ) → a < 2 → ((a + 2 * b) % 2 ≡ a) × ((a + 2 * b) / 2 ≡ b)
  two_parts a b l = (omega (arith, l), omega (arith, l))

  pub next_is : (s : Step) (g : ℕ) (ns : List ℕ) (ts : List Bool) → (reads_bit s ≡ true → g ≡ bit_at (value_of w vs s ns ts) k)
      → next_of s (kept k s (value_of w vs s ns ts) ns) g (bits k ns) ≡ kept (suc k) s (value_of w vs s ns ts) ns
  next_is (step.Literal n) g ns ts guess = div-div-eq-div-mul n (2 ^ k) 2 ∙ ap (λ m. n / m) (sym (pow-suc 2 k))
  next_is (step.Ones u) g ns ts guess = omega arith
  next_is (step.Quotient i n) g ns ts guess =
      (λ t. next_quotient n (quotient_after k n (number_at ns i / suc n) (number_at ns i)) (guess refl t) (bit_there k ns i t)) ∙ after_next k n (number_at ns i)
  next_is (step.Add i j) g ns ts guess = (λ t. (bit_there k ns i t + bit_there k ns j t + kept k (step.Add i j) 0 ns) / 2) ∙ sym (sum_next (number_at ns i) (number_at ns j) k)
  next_is (step.Subtract i j) g ns ts guess = (λ t. less_still (kept k (step.Subtract i j) 0 ns) (bit_there k ns i t) (bit_there k ns j t)) ∙ sym (less_bits (number_at ns i) (number_at ns j) k)
  next_is (step.Select t i j) g ns ts guess =
      let v = value_of w vs (step.Select t i j) ns ts in
      let p = two_parts (same (v % 2 ^ k) (number_at ns i % 2 ^ k)) (same (v % 2 ^ k) (number_at ns j % 2 ^ k)) (bit_small (v % 2 ^ k) (number_at ns i % 2 ^ k)) in
      (λ r. same_still (p.0 r) (guess refl r) (bit_there k ns i r) + 2 * same_still (p.1 r) (guess refl r) (bit_there k ns j r))
      ∙ (λ r. sym (same_bits v (number_at ns i) k) r + 2 * sym (same_bits v (number_at ns j) k) r)
  next_is (step.Equal i j) g ns ts guess = (λ t. same_still (kept k (step.Equal i j) 0 ns) (bit_there k ns i t) (bit_there k ns j t)) ∙ sym (same_bits (number_at ns i) (number_at ns j) k)
  next_is (step.Suppose i j) g ns ts guess = (λ t. same_still (kept k (step.Suppose i j) 0 ns) (bit_there k ns i t) (bit_there k ns j t)) ∙ sym (same_bits (number_at ns i) (number_at ns j) k)
  next_is (step.Less i j) g ns ts guess = (λ t. less_still (kept k (step.Less i j) 0 ns) (bit_there k ns i t) (bit_there k ns j t)) ∙ sym (less_bits (number_at ns i) (number_at ns j) k)
  next_is _ g ns ts guess = refl

-- ---- at the end
module _ (w : ℕ) (vs : List ℕ) where
  whole : (ns : List ℕ) (i : ℕ) → AreLow w ns → number_at ns i % 2 ^ w ≡ number_at ns i
  whole ns i low = mod-eq_of_lt (low i)

  pub value_low : (s : Step) (ns : List ℕ) (ts : List Bool) → AreLow w ns → value_of w vs s ns ts < 2 ^ w
  value_low (step.Variable i) ns ts low = low_below (number_at vs i) w
  value_low (step.Literal n) ns ts low = low_below n w
  value_low (step.Ones u) ns ts low = low_below (2 ^ u - 1) w
  value_low (step.Quotient i n) ns ts low = let h = div-le_self (number_at ns i) (suc n) in let l = low i in omega (arith, h, l)
  value_low (step.And i j) ns ts low = let h = and_le_l (number_at ns i) (number_at ns j) in let l = low i in omega (arith, h, l)
  value_low (step.Or i j) ns ts low = or_lt w (number_at ns i) (number_at ns j) (low i) (low j)
  value_low (step.ExclusiveOr i j) ns ts low = xor_lt w (number_at ns i) (number_at ns j) (low i) (low j)
  value_low (step.Add i j) ns ts low = low_below (number_at ns i + number_at ns j) w
  value_low (step.Subtract i j) ns ts low = low_below (number_at ns i + (2 ^ w - number_at ns j)) w
  value_low (step.Select t i j) ns ts low = chosen (truth_at ts t)
    where
      chosen : (b : Bool) → (if b then number_at ns i else number_at ns j) < 2 ^ w
      chosen true = low i
      chosen false = low j
  value_low _ ns ts low = pow_pos w

  pub end_truth_is : (s : Step) (ns : List ℕ) (ts : List Bool) → is_number s ≡ false → AreLow w ns → end_truth s (kept w s (value_of w vs s ns ts) ns) ts ≡ truth_of s ns ts
  end_truth_is (step.Equal i j) ns ts is low = (λ t. same (whole ns i low t) (whole ns j low t) == 1) ∙ end_same (number_at ns i) (number_at ns j)
    where
      end_same : (a b : ℕ) → (same a b == 1) ≡ (a == b)
      end_same a b = all_widths (a == b)
        where
          all_widths : (c : Bool) → ((if c then 1 else 0) == 1) ≡ c
          all_widths true = refl
          all_widths false = refl
  end_truth_is (step.Suppose i j) ns ts is low = (λ t. same (whole ns i low t) (whole ns j low t) == 1) ∙ end_same (number_at ns i) (number_at ns j)
    where
      end_same : (a b : ℕ) → (same a b == 1) ≡ (a == b)
      end_same a b = all_widths (a == b)
        where
          all_widths : (c : Bool) → ((if c then 1 else 0) == 1) ≡ c
          all_widths true = refl
          all_widths false = refl
  end_truth_is (step.Less i j) ns ts is low = (λ t. less (whole ns i low t) (whole ns j low t) == 1) ∙ end_less (number_at ns i) (number_at ns j)
    where
      end_less : (a b : ℕ) → (less a b == 1) ≡ nat_lt a b
      end_less a b = all_widths (nat_lt a b)
        where
          all_widths : (c : Bool) → ((if c then 1 else 0) == 1) ≡ c
          all_widths true = refl
          all_widths false = refl
  end_truth_is (step.Not i) ns ts is low = refl
  end_truth_is (step.Both i j) ns ts is low = refl
  end_truth_is (step.Differ i j) ns ts is low = refl
  end_truth_is _ ns ts is low = absurd (true≢false is)

  same_self : (a : ℕ) → same a a ≡ 1
  same_self a = grind (arith, nat_tests)

  part_low : (a b : ℕ) → (a + 2 * b) % 2 ≡ a % 2
  part_low a b = omega arith

  part_high : (a b : ℕ) → a < 2 → (a + 2 * b) / 2 ≡ b
  part_high a b l = omega (arith, l)

  -- the selected value is one of two
  selects : (b : Bool) (m x y : ℕ)
      → (if b then (same ((if b then x else y) % m) (x % m) + 2 * same ((if b then x else y) % m) (y % m)) % 2 == 1
      else (same ((if b then x else y) % m) (x % m) + 2 * same ((if b then x else y) % m) (y % m)) / 2 == 1) ≡ true
  selects true m x y = ap (λ c. (c + 2 * same (x % m) (y % m)) % 2 == 1) (same_self (x % m)) ∙ ap (λ c. c == 1) (part_low 1 (same (x % m) (y % m)))
  selects false m x y = ap (λ c. (same (y % m) (x % m) + 2 * c) / 2 == 1) (same_self (y % m)) ∙ ap (λ c. c == 1) (part_high (same (y % m) (x % m)) 1 (bit_small (y % m) (x % m)))

  still_one : (b : Bool) (m x y : ℕ) → (same ((if b then x else y) % m) (x % m) + 2 * same ((if b then x else y) % m) (y % m) == 0) ≡ false
  still_one true m x y = ap (λ c. c + 2 * same (x % m) (y % m) == 0) (same_self (x % m)) ∙ some (same (x % m) (y % m))
    where
      some : (a : ℕ) → (1 + 2 * a == 0) ≡ false
      some a = grind (arith, nat_tests)
  still_one false m x y = ap (λ c. same (y % m) (x % m) + 2 * c == 0) (same_self (y % m)) ∙ some (same (y % m) (x % m))
    where
      some : (a : ℕ) → (a + 2 * 1 == 0) ≡ false
      some a = grind (arith, nat_tests)

  same_supposed : (a b m : ℕ) → (a == b) ≡ true → same (a % m) (b % m) ≡ 1
  same_supposed a b m e = ap (λ c. same (a % m) (c % m)) (sym (eqb-true a b e)) ∙ same_self (a % m)

  pub agrees_is : (s : Step) (ns : List ℕ) (ts : List Bool) → AreLow w ns → supposed_of s ns ≡ true → agrees s (kept w s (value_of w vs s ns ts) ns) ts ≡ true
  agrees_is (step.Quotient i n) ns ts low e = quotient_right w n (number_at ns i) (low i)
  agrees_is (step.Select t i j) ns ts low e = selects (truth_at ts t) (2 ^ w) (number_at ns i) (number_at ns j)
  agrees_is (step.Suppose i j) ns ts low e = ap (λ c. c == 1) (same_supposed (number_at ns i) (number_at ns j) (2 ^ w) e)
  agrees_is _ ns ts low e = refl

  pub loses_not : (k : ℕ) (s : Step) (ns : List ℕ) (ts : List Bool) → supposed_of s ns ≡ true → loses s (kept k s (value_of w vs s ns ts) ns) ≡ false
  loses_not k (step.Select t i j) ns ts e = still_one (truth_at ts t) (2 ^ k) (number_at ns i) (number_at ns j)
  loses_not k (step.Quotient i n) ns ts e = not_too_great k n (number_at ns i / suc n) (number_at ns i)
  loses_not k (step.Suppose i j) ns ts e = ap (λ c. c == 0) (same_supposed (number_at ns i) (number_at ns j) (2 ^ k) e)
  loses_not k _ ns ts e = refl
