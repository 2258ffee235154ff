-- Sums, differences and comparisons of numbers, by their lowest bits.
use Rattle.std.proofs.Common.{◌≡◌, ◌∙◌, ℕ, zero, suc, ◌+◌, ◌-◌, ◌*◌, ◌/◌, ◌%◌, ◌^◌, ◌<◌, ◌≤◌, ◌==◌, ◌⊎◌, inl, inr, nat_lt, if◌then◌else◌, sym, ap, subst, arith}
use Rattle.std.specs.Int.{bit_at}
use Rattle.std.proofs.lemmas.Bool.Decides.{nat_tests}
use Rattle.std.proofs.lemmas.Nat.{mod-pow-add, div-mul-add, div-add-mod', pow-add, pow_pos}
use Rattle.std.proofs.lemmas.Nat.Bits.{bit_at-lt}
use Rattle.std.proofs.Math.Nat.{div-div-eq-div-mul, div-lt_iff_lt-mul, mod-lt, pow-suc}
use Rattle.std.proofs.Math.Pow.{mod-mod-pow}
use Rattle.width_claims.specs.BitSerial.{same_still, less_still}

-- the lowest bits and one more
pub one_more : (a k : ℕ) → a % 2 ^ suc k ≡ bit_at a k * 2 ^ k + a % 2 ^ k
one_more a k =
    let e : suc k ≡ 1 + k = omega arith in
    ap (λ j. a % 2 ^ j) e ∙ mod-pow-add a 1 k

pub low_below : (a k : ℕ) → a % 2 ^ k < 2 ^ k
low_below a k = mod-lt a (pow_pos k)

-- a bit of a number modulo a greater power
pub bit_within : (a k w : ℕ) → k < w → bit_at (a % 2 ^ w) k ≡ bit_at a k
bit_within a k w l =
    let e : (w - suc k) + suc k ≡ w = omega (arith, l) in
    let h = one_more (a % 2 ^ w) k in
    let i = one_more a k in
    let j : a % 2 ^ w % 2 ^ suc k ≡ a % 2 ^ suc k = subst (λ (v : ℕ). a % 2 ^ v % 2 ^ suc k ≡ a % 2 ^ suc k) e (mod-mod-pow a (w - suc k) (suc k)) in
    let top = ap (λ n. n / 2 ^ k) (sym h ∙ j ∙ i) in
    sym (div-mul-add (bit_at (a % 2 ^ w) k) (2 ^ k) (a % 2 ^ w % 2 ^ k) (low_below (a % 2 ^ w) k)) ∙ top ∙ div-mul-add (bit_at a k) (2 ^ k) (a % 2 ^ k) (low_below a k)

-- ---- sums

-- the quotient of a sum, with the carry of the remainders
add_quotient : (a b m : ℕ) → 0 < m → (a + b) / m ≡ a / m + b / m + (a % m + b % m) / m
add_quotient a b m l =
    let x = div-add-mod' a m in
    let y = div-add-mod' b m in
    let z = div-add-mod' (a % m + b % m) m in
    let r = mod-lt (a % m + b % m) l in
    let e : a + b ≡ (a / m + b / m + (a % m + b % m) / m) * m + (a % m + b % m) % m = omega (arith, x, y, z) in
    ap (λ n. n / m) e ∙ div-mul-add (a / m + b / m + (a % m + b % m) / m) m ((a % m + b % m) % m) r

pub sum_bit : (a b k : ℕ) → bit_at (a + b) k ≡ (bit_at a k + bit_at b k + (a % 2 ^ k + b % 2 ^ k) / 2 ^ k) % 2
sum_bit a b k =
    ap (λ n. n % 2) (add_quotient a b (2 ^ k) (pow_pos k)) ∙ halves (a / 2 ^ k) (b / 2 ^ k) ((a % 2 ^ k + b % 2 ^ k) / 2 ^ k)
  where
    halves : (x y c : ℕ) → (x + y + c) % 2 ≡ (x % 2 + y % 2 + c) % 2
    halves x y c = omega arith

pub sum_next : (a b k : ℕ) → (a % 2 ^ suc k + b % 2 ^ suc k) / 2 ^ suc k ≡ (bit_at a k + bit_at b k + (a % 2 ^ k + b % 2 ^ k) / 2 ^ k) / 2
sum_next a b k =
    let z = div-add-mod' (a % 2 ^ k + b % 2 ^ k) (2 ^ k) in
    let r = low_below (a % 2 ^ k + b % 2 ^ k) k in
    let c = (a % 2 ^ k + b % 2 ^ k) / 2 ^ k in
    let one = one_more a k in
    let two = one_more b k in
    let e : a % 2 ^ suc k + b % 2 ^ suc k ≡ (bit_at a k + bit_at b k + c) * 2 ^ k + (a % 2 ^ k + b % 2 ^ k) % 2 ^ k = omega (arith, one, two, z) in
    ap (λ n. (a % 2 ^ suc k + b % 2 ^ suc k) / n) (pow-suc 2 k) ∙ sym (div-div-eq-div-mul (a % 2 ^ suc k + b % 2 ^ suc k) (2 ^ k) 2)
    ∙ ap (λ n. n / 2 ^ k / 2) e ∙ ap (λ n. n / 2) (div-mul-add (bit_at a k + bit_at b k + c) (2 ^ k) ((a % 2 ^ k + b % 2 ^ k) % 2 ^ k) r)

pub carry_below : (a b k : ℕ) → (a % 2 ^ k + b % 2 ^ k) / 2 ^ k < 2
carry_below a b k =
    let x = low_below a k in
    let y = low_below b k in
    let z = div-add-mod' (a % 2 ^ k + b % 2 ^ k) (2 ^ k) in
    small ((a % 2 ^ k + b % 2 ^ k) / 2 ^ k) (2 ^ k) (a % 2 ^ k + b % 2 ^ k) ((a % 2 ^ k + b % 2 ^ k) % 2 ^ k) z (omega (arith, x, y))
  where
    small : (c m n r : ℕ) → c * m + r ≡ n → n < m + m → c < 2
    small zero m n r e l = omega arith
    small (suc zero) m n r e l = omega arith
    small (suc (suc c)) m n r e l =
        let d : suc (suc c) * m ≡ m + m + c * m = omega arith in
        absurd (omega (arith, d, e, l))

-- ---- equality and order

abbrev pub same : ℕ → ℕ → ℕ
same a b = if a == b then 1 else 0

abbrev pub less : ℕ → ℕ → ℕ
less a b = if nat_lt a b then 1 else 0

pub same_next : (p q x y m : ℕ) → p < 2 → q < 2 → x < m → y < m → same (p * m + x) (q * m + y) ≡ same_still (same x y) p q
same_next zero zero x y m l h lx ly = grind (arith, nat_tests)
same_next zero (suc zero) x y m l h lx ly = grind (arith, nat_tests)
same_next (suc zero) zero x y m l h lx ly = grind (arith, nat_tests)
same_next (suc zero) (suc zero) x y m l h lx ly = grind (arith, nat_tests)
same_next (suc (suc p)) q x y m l h lx ly = absurd (omega (arith, l))
same_next zero (suc (suc q)) x y m l h lx ly = absurd (omega (arith, h))
same_next (suc zero) (suc (suc q)) x y m l h lx ly = absurd (omega (arith, h))

pub less_next : (p q x y m : ℕ) → p < 2 → q < 2 → x < m → y < m → less (p * m + x) (q * m + y) ≡ less_still (less x y) p q
less_next zero zero x y m l h lx ly = grind (arith, nat_tests)
less_next zero (suc zero) x y m l h lx ly = grind (arith, nat_tests)
less_next (suc zero) zero x y m l h lx ly = grind (arith, nat_tests)
less_next (suc zero) (suc zero) x y m l h lx ly = grind (arith, nat_tests)
less_next (suc (suc p)) q x y m l h lx ly = absurd (omega (arith, l))
less_next zero (suc (suc q)) x y m l h lx ly = absurd (omega (arith, h))
less_next (suc zero) (suc (suc q)) x y m l h lx ly = absurd (omega (arith, h))

pub same_bits : (a b k : ℕ) → same (a % 2 ^ suc k) (b % 2 ^ suc k) ≡ same_still (same (a % 2 ^ k) (b % 2 ^ k)) (bit_at a k) (bit_at b k)
same_bits a b k =
    (λ i. same (one_more a k i) (one_more b k i))
    ∙ same_next (bit_at a k) (bit_at b k) (a % 2 ^ k) (b % 2 ^ k) (2 ^ k) (bit_at-lt a k) (bit_at-lt b k) (low_below a k) (low_below b k)

pub less_bits : (a b k : ℕ) → less (a % 2 ^ suc k) (b % 2 ^ suc k) ≡ less_still (less (a % 2 ^ k) (b % 2 ^ k)) (bit_at a k) (bit_at b k)
less_bits a b k =
    (λ i. less (one_more a k i) (one_more b k i))
    ∙ less_next (bit_at a k) (bit_at b k) (a % 2 ^ k) (b % 2 ^ k) (2 ^ k) (bit_at-lt a k) (bit_at-lt b k) (low_below a k) (low_below b k)

-- ---- differences

pub less_yes : (a b : ℕ) → a < b → less a b ≡ 1
less_yes a b l = grind (arith, nat_tests)

pub less_no : (a b : ℕ) → b ≤ a → less a b ≡ 0
less_no a b l = grind (arith, nat_tests)

either : (a b : ℕ) → (a < b) ⊎ (b ≤ a)
either a b = grind arith

-- a difference of remainders, with the borrow
borrowed : (p e x y m : ℕ) → x < m → y < m → ((p * m + x) + (e * m + (m - y))) / m + less x y ≡ p + e + 1
borrowed p e x y m lx ly =
    elim (either x y) [
      | inl h ↦ (
          let s : (p * m + x) + (e * m + (m - y)) ≡ (p + e) * m + (x + m - y) = omega (arith, h, ly) in
          let q = ap (λ n. n / m) s ∙ div-mul-add (p + e) m (x + m - y) (omega (arith, h, ly, lx)) in
          let c = less_yes x y h in
          omega (arith, q, c))
      | inr h ↦ (
          let s : (p * m + x) + (e * m + (m - y)) ≡ (p + e + 1) * m + (x - y) = omega (arith, h, ly) in
          let q = ap (λ n. n / m) s ∙ div-mul-add (p + e + 1) m (x - y) (omega (arith, h, ly, lx)) in
          let c = less_no x y h in
          omega (arith, q, c))
    ]

-- the quotient of a difference
difference_quotient : (a b m n : ℕ) → 0 < m → b < n * m → (a + (n * m - b)) / m + b / m + less (a % m) (b % m) ≡ a / m + n
difference_quotient a b m n l h =
    let x = div-add-mod' a m in
    let y = div-add-mod' b m in
    let lx = mod-lt a l in
    let ly = mod-lt b l in
    let below : b / m < n = (div-lt_iff_lt-mul {x = b} {y = n} l).1 h in
    let e = n - b / m - 1 in
    let whole : n ≡ b / m + (e + 1) = omega (arith, below) in
    let times : n * m ≡ (b / m + (e + 1)) * m = ap (λ k. k * m) whole in
    let s : a + (n * m - b) ≡ (a / m * m + a % m) + (e * m + (m - b % m)) = omega (arith, x, y, lx, ly, times) in
    let q = borrowed (a / m) e (a % m) (b % m) m lx ly in
    let r = ap (λ k. k / m) s in
    omega (arith, q, r, whole)

pub difference_bit : (a b k w : ℕ) → k < w → b < 2 ^ w → bit_at (a + (2 ^ w - b)) k ≡ (bit_at a k + bit_at b k + less (a % 2 ^ k) (b % 2 ^ k)) % 2
difference_bit a b k w l h =
    let d = w - suc k in
    let e : suc d + k ≡ w = omega (arith, l) in
    let whole : 2 ^ w ≡ (2 ^ d * 2) * 2 ^ k = ap (λ n. 2 ^ n) (sym e) ∙ pow-add 2 (suc d) k ∙ ap (λ n. n * 2 ^ k) (pow-suc 2 d) in
    let q = difference_quotient a b (2 ^ k) (2 ^ d * 2) (pow_pos k) (subst (λ (n : ℕ). b < n) whole h) in
    ap (λ n. (a + (n - b)) / 2 ^ k % 2) whole ∙ halves ((a + ((2 ^ d * 2) * 2 ^ k - b)) / 2 ^ k) (a / 2 ^ k) (b / 2 ^ k) (less (a % 2 ^ k) (b % 2 ^ k)) (2 ^ d) q
  where
    halves : (q x y c j : ℕ) → q + y + c ≡ x + j * 2 → q % 2 ≡ (x % 2 + y % 2 + c) % 2
    halves q x y c j e = omega (arith, e)
