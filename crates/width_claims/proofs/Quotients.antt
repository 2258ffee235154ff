-- Quotients bit by bit: the carry of the product of quotient and divisor plus the remainder, and the remainder's bits
-- against the divisor's.
use Rattle.std.proofs.Common.{◌≡◌, ◌∙◌, ℕ, zero, suc, ◌+◌, ◌-◌, ◌*◌, ◌/◌, ◌%◌, ◌^◌, ◌<◌, ◌≤◌, ◌==◌, ◌&&◌, ◌⊎◌, inl, inr, min, not, true, false, nat_lt, refl, sym, ap, subst, arith}
use Rattle.std.specs.Int.{bit_at}
use Rattle.std.proofs.lemmas.Bool.Decides.{nat_tests}
use Rattle.std.proofs.lemmas.Nat.{div-mul-add, div-add-mod', mod-mul-add, pow-add, pow_pos}
use Rattle.std.proofs.Math.Nat.{div-div-eq-div-mul, div-le_self, div-lt_iff_lt-mul, mod-eq_of_lt, mod-lt, mul-le-mul_left, mul-le-mul_right, pow-suc}
use Rattle.width_claims.specs.BitSerial.{is_quotient, is_too_great, kept_carry, kept_less, kept_rest, less_still, next_quotient, quotient_kept, quotient_next, quotient_radix}
use Rattle.width_claims.proofs.Numbers.{less, less_bits, less_yes, low_below, one_more}

-- ---- ones

pub ones_bit : (u k : ℕ) → min (u - k) 1 ≡ bit_at (2 ^ u - 1) k
ones_bit u k = go (cases u k)
  where
    cases : (a b : ℕ) → (b < a) ⊎ (a ≤ b)
    cases a b = grind arith

    go : (k < u) ⊎ (u ≤ k) → min (u - k) 1 ≡ bit_at (2 ^ u - 1) k
    go (inl l) =
        let d = u - suc k in
        let e : suc d + k ≡ u = omega (arith, l) in
        let whole : 2 ^ u ≡ (2 ^ d * 2) * 2 ^ k = ap (λ n. 2 ^ n) (sym e) ∙ pow-add 2 (suc d) k ∙ ap (λ n. n * 2 ^ k) (pow-suc 2 d) in
        let some = pow_pos d in
        let low = pow_pos k in
        let one : 2 ^ d * 2 ≡ (2 ^ d * 2 - 1) + 1 = omega (arith, some) in
        let times : (2 ^ d * 2) * 2 ^ k ≡ (2 ^ d * 2 - 1) * 2 ^ k + 2 ^ k = ap (λ n. n * 2 ^ k) one ∙ once (2 ^ d * 2 - 1) (2 ^ k) in
        let parts : 2 ^ u - 1 ≡ (2 ^ d * 2 - 1) * 2 ^ k + (2 ^ k - 1) = omega (arith, whole, times, low) in
        let top : (2 ^ u - 1) / 2 ^ k ≡ 2 ^ d * 2 - 1 = ap (λ n. n / 2 ^ k) parts ∙ div-mul-add (2 ^ d * 2 - 1) (2 ^ k) (2 ^ k - 1) (omega (arith, low)) in
        let odd : (2 ^ d * 2 - 1) % 2 ≡ 1 = omega (arith, some) in
        let left : min (u - k) 1 ≡ 1 = omega (arith, l) in
        left ∙ sym (ap (λ n. n % 2) top ∙ odd)
      where
        once : (a b : ℕ) → (a + 1) * b ≡ a * b + b
        once a b = grind arith
    go (inr l) =
        let low = pow_pos u in
        let g = grows u k l in
        let none : (2 ^ u - 1) / 2 ^ k ≡ 0 = ap (λ n. n / 2 ^ k) (simple (2 ^ u - 1) (2 ^ k)) ∙ div-mul-add 0 (2 ^ k) (2 ^ u - 1) (omega (arith, low, g)) in
        let left : min (u - k) 1 ≡ 0 = omega (arith, l) in
        left ∙ sym (ap (λ n. n % 2) none)
      where
        simple : (a b : ℕ) → a ≡ 0 * b + a
        simple a b = omega arith

        grows : (v w : ℕ) → v ≤ w → 2 ^ v ≤ 2 ^ w
        grows v w h =
            let e : (w - v) + v ≡ w = omega (arith, h) in
            let p : 2 ^ w ≡ 2 ^ (w - v) * 2 ^ v = ap (λ n. 2 ^ n) (sym e) ∙ pow-add 2 (w - v) v in
            let m : 1 * 2 ^ v ≤ 2 ^ (w - v) * 2 ^ v = mul-le-mul_right (2 ^ v) (pow_pos (w - v)) in
            omega (arith, p, m)

-- ---- what a quotient keeps

turned : (c r p : ℕ) → c + r * p ≡ p * r + c
turned c r p = omega arith

two_parts : (l r : ℕ) → l < 2 → ((l + 2 * r) % 2 ≡ l) × ((l + 2 * r) / 2 ≡ r)
two_parts l r h = (omega (arith, h), omega (arith, h))

pub carry_is : (n c l r : ℕ) → c < n + 2 → kept_carry n (quotient_kept n c l r) ≡ c
carry_is n c l r h = ap (λ m. m % (n + 2)) (turned c (n + 2) (l + 2 * r)) ∙ mod-mul-add (l + 2 * r) (n + 2) c h

flags_are : (n c l r : ℕ) → c < n + 2 → quotient_kept n c l r / (n + 2) ≡ l + 2 * r
flags_are n c l r h = ap (λ m. m / (n + 2)) (turned c (n + 2) (l + 2 * r)) ∙ div-mul-add (l + 2 * r) (n + 2) c h

pub less_is : (n c l r : ℕ) → c < n + 2 → l < 2 → kept_less n (quotient_kept n c l r) ≡ l
less_is n c l r h i = ap (λ m. m % 2) (flags_are n c l r h) ∙ (two_parts l r i).0

pub rest_is : (n c l r : ℕ) → c < n + 2 → l < 2 → kept_rest n (quotient_kept n c l r) ≡ r
rest_is n c l r h i = ap (λ m. m / 2) (flags_are n c l r h) ∙ (two_parts l r i).1

-- a digit and what is above it
within : (c r p q : ℕ) → c < r → p < q → c + r * p < r * q
within c r p q l h =
    let i : r * suc p ≤ r * q = mul-le-mul_left r h in
    let e : r * suc p ≡ r * p + r = omega arith in
    omega (arith, i, e, l)

pub quotient_below : (n c l r : ℕ) → c < n + 2 → l < 2 → r < n + 2 → quotient_kept n c l r < quotient_radix n
quotient_below n c l r h i j = within c (n + 2) (l + 2 * r) (2 * (n + 2)) h (omega (arith, i, j))

pub quotient_some : (n : ℕ) → 0 < quotient_radix n
quotient_some n = let h = within 0 (n + 2) 0 (2 * (n + 2)) (omega arith) (omega arith) in omega (arith, h)

still_small : (c p q : ℕ) → c < 2 → q < 2 → less_still c p q < 2
still_small c p q l h = grind (arith, nat_tests)

pub next_below : (n c g x : ℕ) → c < quotient_radix n → g < 2 → next_quotient n c g x < quotient_radix n
next_below n c g x h i =
    let d = n + 2 in
    let carry : c % d < d = mod-lt c (omega arith) in
    let turn : d * (2 * d) ≡ (2 * d) * d = grind arith in
    let below : c < (2 * d) * d = subst (λ (m : ℕ). c < m) turn h in
    let some : 0 < d = omega arith in
    let flags : c / d < 2 * d = (div-lt_iff_lt-mul {x = c} {y = 2 * d} some).1 below in
    let product : g * (n + 1) ≤ n + 1 = once g i in
    let s = g * (n + 1) + kept_carry n c in
    let r = (x + s) % 2 in
    let rest = kept_rest n c in
    quotient_below n ((s + r) / 2) (less_still (kept_less n c) r (rest % 2)) (rest / 2) (omega (arith, carry, product))
    (still_small (kept_less n c) r (rest % 2) (omega arith) (omega arith)) (omega (arith, flags))
  where
    once : (b : ℕ) → b < 2 → b * (n + 1) ≤ n + 1
    once zero l = omega arith
    once (suc zero) l = omega arith
    once (suc (suc b)) l = absurd (omega (arith, l))

-- ---- the numbers that are kept after k bits

-- the carry, for a quotient q, a divisor d and a remainder r
abbrev pub carried : ℕ → ℕ → ℕ → ℕ → ℕ
carried k q d r = (q % 2 ^ k * d + r % 2 ^ k) / 2 ^ k

pub carried_below : (k q d r : ℕ) → carried k q d r < d + 1
carried_below k q d r =
    let m = 2 ^ k in
    let x = low_below q k in
    let y = low_below r k in
    let e : q % m + 1 ≤ m = omega (arith, x) in
    let p : (q % m + 1) * d ≤ m * d = mul-le-mul_right d e in
    let f : (q % m + 1) * d ≡ q % m * d + d = grind arith in
    let g : m * d + m ≡ (d + 1) * m = grind arith in
    (div-lt_iff_lt-mul {x = q % m * d + r % m} {y = d + 1} (pow_pos k)).1 (omega (arith, p, f, g, y))

module _ (k q d r : ℕ) where
  abbrev m : ℕ
  m = 2 ^ k

  abbrev low : ℕ
  low = q % m * d + r % m

  joined : (a b c e : ℕ) → (a * m + b) * d + (c * m + e) ≡ (a * d + c) * m + (b * d + e)
  joined a b c e = grind arith

  summed : (a b : ℕ) → a * m + b * m ≡ (a + b) * m
  summed a b = grind arith

  parted : (a c x : ℕ) → x ≡ (a * m + q % m) * d + (c * m + r % m) → x ≡ (a * d + c + low / m) * m + low % m
  parted a c x e =
      let z = div-add-mod' low m in
      let s = summed (a * d + c) (low / m) in
      let both = e ∙ joined a (q % m) c (r % m) in
      omega (arith, both, z, s)

  top : (a c x : ℕ) → x ≡ (a * m + q % m) * d + (c * m + r % m) → x / m ≡ a * d + c + low / m
  top a c x e = ap (λ n. n / m) (parted a c x e) ∙ div-mul-add (a * d + c + low / m) m (low % m) (mod-lt low (pow_pos k))

  -- the dividend's bit
  dividend_bit : bit_at (q * d + r) k ≡ (q / m * d + r / m + low / m) % 2
  dividend_bit = ap (λ n. n % 2) (top (q / m) (r / m) (q * d + r) (λ i. sym (div-add-mod' q m) i * d + sym (div-add-mod' r m) i))

  spread : (a b : ℕ) → (2 * a + b) * d ≡ 2 * (a * d) + b * d
  spread a b = grind arith

  halves : (t a f j c : ℕ) → t ≡ 2 * a + f → ((t + j + c) % 2 + (f + c)) % 2 ≡ j % 2
  halves t a f j c e = omega (arith, e)

  even : (h j c : ℕ) → ((h * d + j + c) % 2 + (h % 2 * d + c)) % 2 ≡ j % 2
  even h j c =
      let e : h ≡ 2 * (h / 2) + h % 2 = omega arith in
      halves (h * d) (h / 2 * d) (h % 2 * d) j c (ap (λ n. n * d) e ∙ spread (h / 2) (h % 2))

  -- the remainder's bit makes the sum even with the dividend's bit
  pub remainder_bit : (bit_at (q * d + r) k + (bit_at q k * d + low / m)) % 2 ≡ bit_at r k
  remainder_bit = ap (λ b. (b + (bit_at q k * d + low / m)) % 2) dividend_bit ∙ even (q / m) (r / m) (low / m)

  turn : (a b c : ℕ) → a + b + c ≡ a + c + b
  turn a b c = omega arith

  pub carried_next : (bit_at q k * d + low / m + bit_at r k) / 2 ≡ (q % 2 ^ suc k * d + r % 2 ^ suc k) / 2 ^ suc k
  carried_next =
      let x = q % 2 ^ suc k * d + r % 2 ^ suc k in
      let up = top (bit_at q k) (bit_at r k) x (λ i. one_more q k i * d + one_more r k i) in
      ap (λ n. n / 2) (turn (bit_at q k * d) (low / m) (bit_at r k) ∙ sym up) ∙ div-div-eq-div-mul x m 2 ∙ ap (λ n. x / n) (sym (pow-suc 2 k))

-- ---- what is kept, of a dividend x

abbrev pub quotient_after : ℕ → ℕ → ℕ → ℕ → ℕ
quotient_after k n q x = quotient_kept n (carried k q (suc n) (x % suc n)) (less (x % suc n % 2 ^ k) (suc n % 2 ^ k)) (suc n / 2 ^ k)

less_low : (a b : ℕ) → less a b < 2
less_low a b = grind (arith, nat_tests)

carried_low : (k n q r : ℕ) → carried k q (suc n) r < n + 2
carried_low k n q r = let h = carried_below k q (suc n) r in omega (arith, h)

pub after_below : (k n q x : ℕ) → quotient_after k n q x < quotient_radix n
after_below k n q x =
    let h = div-le_self (suc n) (2 ^ k) in
    quotient_below n (carried k q (suc n) (x % suc n)) (less (x % suc n % 2 ^ k) (suc n % 2 ^ k)) (suc n / 2 ^ k) (carried_low k n q (x % suc n))
    (less_low (x % suc n % 2 ^ k) (suc n % 2 ^ k)) (omega (arith, h))

pub after_first : (n q x : ℕ) → quotient_after 0 n q x ≡ quotient_kept n 0 0 (n + 1)
after_first n q x =
    let carry : (q % 1 * suc n + x % suc n % 1) / 1 ≡ 0 = none (q % 1) (x % suc n % 1) (omega arith) (omega arith) in
    let all : suc n / 1 ≡ n + 1 = omega arith in
    (λ i. quotient_kept n (carry i) (not_less (x % suc n) (suc n) i) (all i))
  where
    none : (a b : ℕ) → a ≡ 0 → b ≡ 0 → (a * suc n + b) / 1 ≡ 0
    none a b e f = (λ i. (e i * suc n + f i) / 1) ∙ nothing
      where
        nothing : (0 * suc n + 0) / 1 ≡ 0
        nothing = omega arith

    not_less : (a b : ℕ) → less (a % 1) (b % 1) ≡ 0
    not_less a b = grind (arith, nat_tests)

-- from bit to bit, if the guess is the quotient's bit
pub after_next : (k n x : ℕ) → next_quotient n (quotient_after k n (x / suc n) x) (bit_at (x / suc n) k) (bit_at x k) ≡ quotient_after (suc k) n (x / suc n) x
after_next k n x =
    let q = x / suc n in
    let r = x % suc n in
    let d = suc n in
    let c = carried k q d r in
    let l = less (r % 2 ^ k) (d % 2 ^ k) in
    let t = d / 2 ^ k in
    let small = carried_low k n q r in
    let flag = less_low (r % 2 ^ k) (d % 2 ^ k) in
    let whole : q * d + r ≡ x = div-add-mod' x d in
    let one : n + 1 ≡ d = omega arith in
    let sum : bit_at q k * (n + 1) + kept_carry n (quotient_kept n c l t) ≡ bit_at q k * d + c = (λ i. bit_at q k * one i + carry_is n c l t small i) in
    let bit : (bit_at x k + (bit_at q k * d + c)) % 2 ≡ bit_at r k = ap (λ y. (bit_at y k + (bit_at q k * d + c)) % 2) (sym whole) ∙ remainder_bit k q d r in
    (λ i. quotient_next n (less_is n c l t small flag i) (sum i) ((bit_at x k + sum i) % 2) (rest_is n c l t small flag i))
    ∙ (λ i. quotient_next n l (bit_at q k * d + c) (bit i) t)
    ∙ (λ i. quotient_kept n (carried_next k q d r i) (sym (less_bits r d k) i) (halved i))
  where
    halved : suc n / 2 ^ k / 2 ≡ suc n / 2 ^ suc k
    halved = div-div-eq-div-mul (suc n) (2 ^ k) 2 ∙ ap (λ m. suc n / m) (sym (pow-suc 2 k))

-- ---- the remainder is less than the divisor

flagged : (n c p : ℕ) → 1 ≤ p → nat_lt (c + (n + 2) * p) (n + 2) ≡ false
flagged n c p h =
    let m : (n + 2) * 1 ≤ (n + 2) * p = mul-le-mul_left (n + 2) h in
    let e : (n + 2) * 1 ≡ n + 2 = omega arith in
    above (c + (n + 2) * p) (n + 2) (omega (arith, m, e))
  where
    above : (a b : ℕ) → b ≤ a → nat_lt a b ≡ false
    above a b l = grind (arith, nat_tests)

pub not_too_great : (k n q x : ℕ) → is_too_great n (quotient_after k n q x) ≡ false
not_too_great k n q x =
    flagged n (carried k q (suc n) (x % suc n)) (less (x % suc n % 2 ^ k) (suc n % 2 ^ k) + 2 * (suc n / 2 ^ k)) (some (suc n / 2 ^ k) refl)
  where
    some : (j : ℕ) → suc n / 2 ^ k ≡ j → 1 ≤ less (x % suc n % 2 ^ k) (suc n % 2 ^ k) + 2 * (suc n / 2 ^ k)
    some zero e =
        let m = 2 ^ k in
        let r = x % suc n in
        let z = div-add-mod' (suc n) m in
        let t = ap (λ j. j * m) e in
        let low = mod-lt (suc n) (pow_pos k) in
        let none : 0 * m ≡ 0 = omega arith in
        let small : suc n < m = omega (arith, z, t, low, none) in
        let below : r < suc n = mod-lt x (omega arith) in
        let low_r : r % m ≡ r = mod-eq_of_lt (omega (arith, below, small)) in
        let low_d : suc n % m ≡ suc n = mod-eq_of_lt small in
        let one = (λ i. less (low_r i) (low_d i)) ∙ less_yes r (suc n) below in
        omega (arith, one)
    some (suc j) e = omega (arith, e)

pub quotient_right : (w n x : ℕ) → x < 2 ^ w → is_quotient n (quotient_after w n (x / suc n) x) ≡ true
quotient_right w n x l =
    let q = x / suc n in
    let r = x % suc n in
    let whole = div-add-mod' x (suc n) in
    let most = div-le_self x (suc n) in
    let q_is : q % 2 ^ w ≡ q = mod-eq_of_lt (omega (arith, most, l)) in
    let times : q * suc n ≡ q * n + q = grind arith in
    let r_is : r % 2 ^ w ≡ r = mod-eq_of_lt (omega (arith, whole, l, times)) in
    let none : carried w q (suc n) r ≡ 0 = (λ i. (q_is i * suc n + r_is i) / 2 ^ w) ∙ ap (λ m. m / 2 ^ w) whole ∙ ap (λ m. m / 2 ^ w) (simple x (2 ^ w)) ∙ div-mul-add 0 (2 ^ w) x l in
    let carry = carry_is n (carried w q (suc n) r) (less (r % 2 ^ w) (suc n % 2 ^ w)) (suc n / 2 ^ w) (carried_low w n q r) ∙ none in
    (λ i. (carry i == 0) && not (not_too_great w n q x i))
  where
    simple : (a b : ℕ) → a ≡ 0 * b + a
    simple a b = omega arith
