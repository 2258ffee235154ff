-- Sets of rules have the rules that were inserted.
use Rattle.std.proofs.Common.{◌≡◌, refl, sym, ap, ◌∙◌, ℕ, zero, suc, ◌+◌, ◌-◌, ◌*◌, ◌^◌, ◌<◌, ◌≤◌, Bool, true, false, true≢false, not, ◌&&◌, ◌||◌, List, [], ◌∷◌, ◌++◌, drop, length, get_or, arith}
use Rattle.std.specs.Prelude.{◌/◌, ◌%◌, ◌==◌}
use Rattle.std.proofs.Math.Nat.{pow-suc}
use Rattle.ir_verify.specs.Sets.{with_bit, packed, bits_of}
use Rattle.ir_verify.specs.Breaks.{numbers_from}

-- dropping one item less
pub packed_drop : (bs : List Bool) (i : ℕ) (d : Bool) → i < length bs → packed (drop i bs) ≡ with_bit (get_or bs i d) (packed (drop (i + 1) bs))
packed_drop [] i d l = absurd (omega arith)
packed_drop (x ∷ bs) zero d l = refl
packed_drop (x ∷ bs) (suc i) d l =
    let m : i < length bs = omega arith in
    let s : suc i + 1 ≡ suc (i + 1) = omega arith in
    packed_drop bs i d m ∙ ap (λ k. with_bit (get_or bs i d) (packed (drop k (x ∷ bs)))) (sym s)

-- k bits make a number below 2^k
pub packed_below : (k : ℕ) (bs : List Bool) → length bs ≤ k → packed bs < 2 ^ k
packed_below zero [] l = omega arith
packed_below zero (b ∷ bs) l = absurd (omega arith)
packed_below (suc k) [] l = let p = packed_below k [] (omega arith) in let e = pow-suc 2 k in omega arith
packed_below (suc k) (true ∷ bs) l = let p = packed_below k bs (omega arith) in let e = pow-suc 2 k in omega arith
packed_below (suc k) (false ∷ bs) l = let p = packed_below k bs (omega arith) in let e = pow-suc 2 k in omega arith

-- the lowest bit, and the others
low : (b : Bool) (n : ℕ) → (with_bit b n % 2 == 1) ≡ b
low true n = let e : (2 * n + 1) % 2 ≡ 1 = omega arith in ap (λ m. m == 1) e
low false n = let e : (2 * n) % 2 ≡ 0 = omega arith in ap (λ m. m == 1) e

high : (b : Bool) (n : ℕ) → with_bit b n / 2 ≡ n
high true n = omega arith
high false n = omega arith

pub none : (k m : ℕ) → numbers_from m (bits_of k 0) ≡ []
none zero m = refl
none (suc k) m = none k (m + 1)

-- a packed list can be unpacked
pub unpacked : (k m : ℕ) (bs : List Bool) → length bs ≤ k → numbers_from m (bits_of k (packed bs)) ≡ numbers_from m bs
unpacked zero m [] l = refl
unpacked zero m (b ∷ bs) l = absurd (omega arith)
unpacked (suc k) m [] l = none (suc k) m
unpacked (suc k) m (b ∷ bs) l =
    (λ i. numbers_from m (low b (packed bs) i ∷ bits_of k (high b (packed bs) i))) ∙ go b (unpacked k (m + 1) bs (omega arith))
  where
    go : (b : Bool) → numbers_from (m + 1) (bits_of k (packed bs)) ≡ numbers_from (m + 1) bs → numbers_from m (b ∷ bits_of k (packed bs)) ≡ numbers_from m (b ∷ bs)
    go true e = ap (λ ns. m ∷ ns) e
    go false e = e

-- reading a set from its lowest bit on
pub next_bit : (n rest : ℕ) → n < 25 → numbers_from n ((rest % 2 == 1) ∷ []) ++ numbers_from (n + 1) (bits_of (25 - (n + 1)) (rest / 2)) ≡ numbers_from n (bits_of (25 - n) rest)
next_bit n rest l =
    let k : 25 - n ≡ suc (25 - (n + 1)) = omega arith in
    go (rest % 2 == 1) (bits_of (25 - (n + 1)) (rest / 2)) ∙ sym (ap (λ m. numbers_from n (bits_of m rest)) k)
  where
    go : (b : Bool) (bs : List Bool) → numbers_from n (b ∷ []) ++ numbers_from (n + 1) bs ≡ numbers_from n (b ∷ bs)
    go true bs = refl
    go false bs = refl

pub no_bits : (n rest : ℕ) → 25 ≤ n → numbers_from n (bits_of (25 - n) rest) ≡ []
no_bits n rest l = let k : 25 - n ≡ 0 = omega arith in ap (λ m. numbers_from n (bits_of m rest)) k

-- the rule bit of a well-shaped operation
pub and_when : (w b r : Bool) → w ≡ true → r ≡ b → r ≡ (w && b)
and_when w b r e f = f ∙ ap (λ z. z && b) (sym e)

-- the rule bit of an operation that isn't well-shaped
pub hushed : (w b : Bool) → w ≡ false → false ≡ (w && b)
hushed w b e = ap (λ z. z && b) (sym e)

pub no_faults : (a b c d e : Bool) → not ((a || (b || c)) || (d || e)) ≡ true → (a ≡ false) × (b ≡ false) × (c ≡ false) × (d ≡ false) × (e ≡ false)
no_faults false false false false false h = (refl, refl, refl, refl, refl)
no_faults true b c d e h = absurd (true≢false (sym h))
no_faults false true c d e h = absurd (true≢false (sym h))
no_faults false false true d e h = absurd (true≢false (sym h))
no_faults false false false true e h = absurd (true≢false (sym h))
no_faults false false false false true h = absurd (true≢false (sym h))
