-- Reading and writing bits of words.
use Rattle.std.proofs.Common.{◌≡◌, ◌≢◌, ℕ, ◌+◌, ◌-◌, ◌*◌, ◌/◌, ◌%◌, ◌^◌, ◌<◌, ◌≤◌, List, length, get_or, set, w64, sym, ap, ◌∙◌, inl, inr, arith, get_or-set_same, get_or-set_other}
use Rattle.std.specs.Int.{bit_at, trailing_zeros}
use Rattle.std.proofs.lemmas.Bool.{cases_eq, cases_lt}
use Rattle.std.proofs.lemmas.Nat.{shr-shr}
use Rattle.std.proofs.lemmas.Nat.Bits.{bit_at-zero, bit_at-trailing_zeros, bit_at_above, same_from_bits}
use Rattle.listeners_support.specs.Bits.{bit_of, IsFirstIn}

module _ (words : List ℕ) (at word : ℕ) (within : at / 64 < length words) where
  pub bit_here : bit_of (set words (at / 64) word) at ≡ bit_at word (at % 64)
  bit_here = ap (λ n. bit_at n (at % 64)) (get_or-set_same words (at / 64) word 0 within)

  -- a word that keeps its other bits keeps the bits of other numbers
  pub bit_other : (old : ℕ) → old ≡ get_or words (at / 64) 0 → ((i : ℕ) → i < 64 → i ≢ at % 64 → bit_at word i ≡ bit_at old i) → (i : ℕ) → i ≢ at → bit_of (set words (at / 64) word) i ≡ bit_of words i
  bit_other old was kept i differs =
      elim (cases_eq (i / 64) (at / 64)) [
        | inl same ↦ rw (same, get_or-set_same words (at / 64) word 0 within) (kept (i % 64) (omega arith) (λ index. differs (omega arith)) ∙ ap (λ n. bit_at n (i % 64)) was)
        | inr apart ↦ ap (λ n. bit_at n (i % 64)) (get_or-set_other words (at / 64) (i / 64) word 0 apart)
      ]

-- a bit of a number is a bit of the shifted number
shifted : (n k i : ℕ) → k ≤ i → bit_at n i ≡ bit_at (n / 2 ^ k) (i - k)
shifted n k i l = let e : i ≡ k + (i - k) = omega arith in ap (bit_at n) e ∙ ap (λ x. x % 2) (sym (shr-shr n k (i - k)))

pub none_from : (n k : ℕ) → n / 2 ^ k ≡ 0 → (i : ℕ) → k ≤ i → bit_at n i ≡ 0
none_from n k none i l = shifted n k i l ∙ ap (λ x. bit_at x (i - k)) none ∙ bit_at-zero (i - k)

pub first_is : (n k : ℕ) → n < 2 ^ 64 → 0 < n / 2 ^ k → n / 2 ^ k < 2 ^ 64 → IsFirstIn n k (k + trailing_zeros w64 (n / 2 ^ k))
first_is n k fits some small =
    let t = trailing_zeros w64 (n / 2 ^ k) in
    let h = bit_at-trailing_zeros w64 (n / 2 ^ k) some small in
    let back : (k + t) - k ≡ t = omega arith in
    let here : bit_at n (k + t) ≡ 1 = shifted n k (k + t) (omega arith) ∙ ap (bit_at (n / 2 ^ k)) back ∙ h.1 in (
      elim (cases_lt (k + t) 64) [ inl l ↦ l | inr m ↦ absurd (let z = bit_at_above n 64 (k + t) fits m in omega (arith, z, here)) ],
      omega arith,
      here,
      λ i l m. shifted n k i l ∙ h.2 (i - k) (omega (arith, l, m)),
    )

-- a word without a bit is 0
pub no_bits : (n : ℕ) → ((i : ℕ) → bit_at n i ≡ 0) → n ≡ 0
no_bits n h = same_from_bits n 0 (λ i. h i ∙ sym (bit_at-zero i))

-- the lowest bit of the first word that isn't 0
pub first_word : (words : List ℕ) (word at n : ℕ) → word ≤ at → ((i : ℕ) → word ≤ i / 64 → i / 64 < at → bit_of words i ≡ 0) → n ≡ get_or words at 0 → 0 < n → n < 2 ^ 64
    → (word ≤ (at * 64 + trailing_zeros w64 n) / 64) × (bit_of words (at * 64 + trailing_zeros w64 n) ≡ 1) × ((i : ℕ) → word ≤ i / 64 → i < at * 64 + trailing_zeros w64 n → bit_of words i ≡ 0)
first_word words word at n l before is some fits =
    let t = trailing_zeros w64 n in
    let h = bit_at-trailing_zeros w64 n some fits in
    let below : t < 64 = h.0 in
    let place : (at * 64 + t) / 64 ≡ at = omega (arith, below) in
    let bit : (at * 64 + t) % 64 ≡ t = omega (arith, below) in (
      omega (arith, place, l),
      (λ i. bit_at (get_or words (place i) 0) (bit i)) ∙ ap (λ m. bit_at m t) (sym is) ∙ h.1,
      λ i m k. elim (cases_lt (i / 64) at) [
        | inl less ↦ before i m less
        | inr more ↦ let here : i / 64 ≡ at = omega (arith, k, more, below) in
            ap (λ w. bit_at (get_or words w 0) (i % 64)) here ∙ ap (λ m. bit_at m (i % 64)) (sym is) ∙ h.2 (i % 64) (omega (arith, k, here))
      ],
    )
