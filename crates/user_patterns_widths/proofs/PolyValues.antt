-- The value of a polynomial, given a value for each place.
use Rattle.std.proofs.Common.{◌≡◌, ℕ, ◌+◌, ◌-◌, ◌*◌, ◌%◌, ◌^◌, ◌<◌, ◌≤◌, List, [], ◌∷◌, ◌++◌, Bool, true, false, if◌then◌else◌, ap, refl, ◌∙◌, arith, lit<}
use Rattle.std.specs.Prelude.{nat_le}
use Rattle.std.proofs.lemmas.Nat.{mod_below}
use Rattle.user_patterns_widths.specs.Polynomials.{Polynomial, Term, coefficient, inserted, joined, negated, negated_term, number, product, term_times, times_all, value_at}
use Rattle.user_patterns_widths.proofs.PolyModulo.{IsSame, products_same, reduced, sums_same, whole_none}

-- each coefficient is below 2^128
abbrev pub AreLow : Polynomial → Type 0
AreLow [] = Unit {0}
AreLow (t ∷ ts) = (t.0 < 2 ^ 128) × AreLow ts

pub coefficient_low : (n : ℕ) → coefficient n < 2 ^ 128
coefficient_low n = mod_below n (2 ^ 128) (lit< tt)

pub number_low : (n : ℕ) → AreLow (number n)
number_low n = (coefficient_low n, tt)

pub value_low : (i : ℕ) → AreLow (value_at i)
value_low i = (lit< tt, tt)

pub sum_low : (p q : Polynomial) → AreLow p → AreLow q → AreLow (p ++ q)
sum_low [] q l k = k
sum_low (t ∷ ts) q l k = (l.0, sum_low ts q l.1 k)

pub times_low : (s : Term) (q : Polynomial) → AreLow (times_all s q)
times_low s [] = tt
times_low s (t ∷ ts) = (coefficient_low (s.0 * t.0), times_low s ts)

pub product_low : (p q : Polynomial) → AreLow (product p q)
product_low [] q = tt
product_low (s ∷ p) q = sum_low (times_all s q) (product p q) (times_low s q) (product_low p q)

pub negated_low : (q : Polynomial) → AreLow (negated q)
negated_low [] = tt
negated_low (t ∷ ts) = (coefficient_low (2 ^ 128 - t.0), negated_low ts)

-- ---- values

module _ (V : ℕ → ℕ) where
  abbrev pub factors : List ℕ → ℕ
  factors [] = 1
  factors (i ∷ is) = V i * factors is

  abbrev pub term_value : Term → ℕ
  term_value t = t.0 * factors t.1

  abbrev pub total : Polynomial → ℕ
  total [] = 0
  total (t ∷ ts) = term_value t + total ts

  inserted_value : (i : ℕ) (js : List ℕ) → factors (inserted i js) ≡ V i * factors js
  inserted_value i [] = refl
  inserted_value i (j ∷ js) = go (inserted_value i js) (nat_le i j)
    where
      go : factors (inserted i js) ≡ V i * factors js → (b : Bool) → factors (if b then i ∷ j ∷ js else j ∷ inserted i js) ≡ V i * (V j * factors js)
      go e true = refl
      go e false = ap (λ n. V j * n) e ∙ grind arith

  joined_value : (is js : List ℕ) → factors (joined is js) ≡ factors is * factors js
  joined_value [] js = omega arith
  joined_value (i ∷ is) js = inserted_value i (joined is js) ∙ ap (λ n. V i * n) (joined_value is js) ∙ grind arith

  pub sum_value : (p q : Polynomial) → total (p ++ q) ≡ total p + total q
  sum_value [] q = omega arith
  sum_value (t ∷ ts) q = ap (λ n. term_value t + n) (sum_value ts q) ∙ omega arith

  pub place_value : (i : ℕ) → total (value_at i) ≡ V i
  place_value i = omega arith

  module _ (w : ℕ) (low : w ≤ 128) where
    pub number_value : (n : ℕ) → IsSame (2 ^ w) (total (number n)) n
    number_value n =
        let e : coefficient n * 1 + 0 ≡ coefficient n = omega arith in
        ap (λ k. k % 2 ^ w) e ∙ reduced w n low

    term_times_value : (s t : Term) → IsSame (2 ^ w) (term_value (term_times s t)) (term_value s * term_value t)
    term_times_value s t =
        let both : s.0 * t.0 * (factors s.1 * factors t.1) ≡ term_value s * term_value t = grind arith in
        products_same (2 ^ w) (coefficient (s.0 * t.0)) (s.0 * t.0) (factors (joined s.1 t.1)) (factors s.1 * factors t.1) (reduced w (s.0 * t.0) low) (ap (λ n. n % 2 ^ w) (joined_value s.1 t.1))
        ∙ ap (λ n. n % 2 ^ w) both

    times_value : (s : Term) (q : Polynomial) → IsSame (2 ^ w) (total (times_all s q)) (term_value s * total q)
    times_value s [] = ap (λ n. n % 2 ^ w) (omega arith)
    times_value s (t ∷ ts) =
        let both : term_value s * term_value t + term_value s * total ts ≡ term_value s * (term_value t + total ts) = grind arith in
        sums_same (2 ^ w) (term_value (term_times s t)) (term_value s * term_value t) (total (times_all s ts)) (term_value s * total ts) (term_times_value s t) (times_value s ts)
        ∙ ap (λ n. n % 2 ^ w) both

    pub product_value : (p q : Polynomial) → IsSame (2 ^ w) (total (product p q)) (total p * total q)
    product_value [] q = ap (λ n. n % 2 ^ w) (omega arith)
    product_value (s ∷ p) q =
        let both : term_value s * total q + total p * total q ≡ (term_value s + total p) * total q = grind arith in
        ap (λ n. n % 2 ^ w) (sum_value (times_all s q) (product p q))
        ∙ sums_same (2 ^ w) (total (times_all s q)) (term_value s * total q) (total (product p q)) (total p * total q) (times_value s q) (product_value p q)
        ∙ ap (λ n. n % 2 ^ w) both

    -- a term and its negation
    negated_term_value : (t : Term) → t.0 < 2 ^ 128 → IsSame (2 ^ w) (term_value (negated_term t) + term_value t) 0
    negated_term_value t l =
        let f = factors t.1 in
        let all : (2 ^ 128 - t.0) + t.0 ≡ 2 ^ 128 = omega (arith, l) in
        let one : term_value (negated_term t) + term_value t ≡ (coefficient (2 ^ 128 - t.0) + t.0) * f = grind arith in
        ap (λ n. n % 2 ^ w) one
        ∙ products_same (2 ^ w) (coefficient (2 ^ 128 - t.0) + t.0) 0 f f
        (sums_same (2 ^ w) (coefficient (2 ^ 128 - t.0)) (2 ^ 128 - t.0) t.0 t.0 (reduced w (2 ^ 128 - t.0) low) refl ∙ ap (λ n. n % 2 ^ w) all ∙ whole_none w low) refl
        ∙ ap (λ n. n % 2 ^ w) (omega arith)

    pub negated_value : (q : Polynomial) → AreLow q → IsSame (2 ^ w) (total (negated q) + total q) 0
    negated_value [] l = refl
    negated_value (t ∷ ts) l =
        let apart : (term_value (negated_term t) + total (negated ts)) + (term_value t + total ts) ≡ (term_value (negated_term t) + term_value t) + (total (negated ts) + total ts) = omega arith in
        ap (λ n. n % 2 ^ w) apart
        ∙ sums_same (2 ^ w) (term_value (negated_term t) + term_value t) 0 (total (negated ts) + total ts) 0 (negated_term_value t l.0) (negated_value ts l.1)
