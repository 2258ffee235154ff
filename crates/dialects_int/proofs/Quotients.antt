-- Quotients of signed values.
use Rattle.std.proofs.Common.{◌≡◌, ℕ, zero, suc, to_z, of_z, ◌-◌, ◌/◌, ◌^◌, ◌<◌, ◌≤◌, true, ℤ, pos, negsuc, neg_ℤ, sym, subst, refl, ◌∙◌, ◌⊎◌, inl, inr, ⊎_elim, arith}
use Rattle.std.specs.Prelude.{int_div}
use Rattle.std.specs.Int.{w128}
use lib.Signed.{mag}
use mir.Val.{SFits}
use Rattle.std.proofs.lemmas.Nat.{div_below, pow_pos}
use Rattle.std.proofs.lemmas.Int.{to_z-of_z, quot_is}
use Rattle.std.proofs.lemmas.Bool.{cases_lt}
use Rattle.std.proofs.lemmas.Bool.Decides.{nat_tests}
use Rattle.std.proofs.Math.Nat.{div-le_self}
use Rattle.ir_types.specs.Readings.{signed_of}
use Rattle.dialects_int.specs.Arithmetic.{divides_signed}
use Rattle.ir_types.proofs.Widths.{signed_low, high_is, halves}
use Rattle.dialects_int.proofs.Widths.{half_le}

-- the signed value of a value is the value, or negative
pub signed_cases : (w v : ℕ) → v < 2 ^ w → ((v < 2 ^ (w - 1)) × (signed_of w v ≡ pos v)) ⊎ ((2 ^ (w - 1) ≤ v) × (signed_of w v ≡ negsuc (2 ^ w - 1 - v)))
signed_cases w v h = ⊎_elim (λ l. inl (l, signed_low w v l)) (λ l. inr (l, high_is w v l h)) (cases_lt v (2 ^ (w - 1)))

pub signed_fits : (w v : ℕ) → 1 ≤ w → w ≤ 128 → v < 2 ^ w → SFits w128 (signed_of w v)
signed_fits w v low high k =
    let top = half_le w high in
    let two = halves w low in
    ⊎_elim
    (λ p. let f : SFits w128 (pos v) = record { sfits = omega (arith, p.0) } in subst (SFits w128) (sym p.1) f)
    (λ p. let f : SFits w128 (negsuc (2 ^ w - 1 - v)) = record { sfits = omega (arith, p.0) } in subst (SFits w128) (sym p.1) f)
    (signed_cases w v k)

pub signed_nonzero : (w v : ℕ) → 1 ≤ w → w ≤ 128 → 0 < v → v < 2 ^ w → 0 < of_z w128 (signed_of w v)
signed_nonzero w v low high l k =
    let top = half_le w high in
    let two = halves w low in
    ⊎_elim (λ p. rw p.1 l)
    (λ p. rw p.1 (omega (arith, p.0)))
    (signed_cases w v k)

pub divides_nonzero : (w a b : ℕ) → divides_signed w a b ≡ true → 0 < b
divides_nonzero w a b h = grind (arith, nat_tests)

pub divides_least : (w a b : ℕ) → divides_signed w a b ≡ true → a ≡ 2 ^ (w - 1) → b ≡ 2 ^ w - 1 → ⊥
divides_least w a b h e f = grind (arith, nat_tests)

neg_within : (r m : ℕ) → r ≤ suc m → mag (neg_ℤ (pos r)) ≤ m
neg_within zero m h = omega arith
neg_within (suc r) m h = omega arith

-- a quotient isn't greater than the dividend, except for the least value by -1
quotient_within : (z d : ℤ) → mag z < 2 ^ 127 → ((a : ℕ) → z ≡ negsuc a → d ≡ negsuc 0 → suc a < 2 ^ 127) → mag (int_div z d) < 2 ^ 127
quotient_within (pos a) (pos b) h e = omega (arith, div-le_self a b)
quotient_within (pos a) (negsuc b) h e =
    let k : mag (neg_ℤ (pos (a / suc b))) ≤ a = neg_within (a / suc b) a (omega (arith, div-le_self a (suc b))) in
    omega arith
quotient_within (negsuc a) (pos b) h e =
    let k : mag (neg_ℤ (pos (suc a / b))) ≤ a = neg_within (suc a / b) a (div-le_self (suc a) b) in
    omega arith
quotient_within (negsuc a) (negsuc zero) h e =
    let k : suc a < 2 ^ 127 = e a refl refl in
    omega (arith, div-le_self (suc a) 1)
quotient_within (negsuc a) (negsuc (suc b)) h e = div_below (suc a) (suc (suc b)) (2 ^ 127) (omega arith) (omega arith)

pub quotient_fits : (w a b : ℕ) → 1 ≤ w → w ≤ 128 → a < 2 ^ w → b < 2 ^ w → divides_signed w a b ≡ true → SFits w128 (int_div (signed_of w a) (signed_of w b))
quotient_fits w a b low high k l can =
    let fits = signed_fits w a low high k in
    let top = half_le w high in
    let two = halves w low in
    let some = pow_pos (w - 1) in
    record {
      sfits = quotient_within (signed_of w a) (signed_of w b) fits.sfits (λ x e f.
          ⊎_elim
          (λ (p : (a < 2 ^ (w - 1)) × (signed_of w a ≡ pos a)). let bad : pos a ≡ negsuc x = sym p.1 ∙ e in cc)
          (λ (p : (2 ^ (w - 1) ≤ a) × (signed_of w a ≡ negsuc (2 ^ w - 1 - a))).
          let x_is : negsuc (2 ^ w - 1 - a) ≡ negsuc x = sym p.1 ∙ e in
          let same : 2 ^ w - 1 - a ≡ x = cc in
          ⊎_elim
          (λ (q : (b < 2 ^ (w - 1)) × (signed_of w b ≡ pos b)). let bad : pos b ≡ negsuc 0 = sym q.1 ∙ f in cc)
          (λ (q : (2 ^ (w - 1) ≤ b) × (signed_of w b ≡ negsuc (2 ^ w - 1 - b))).
          let b_is : negsuc (2 ^ w - 1 - b) ≡ negsuc 0 = sym q.1 ∙ f in
          let none : 2 ^ w - 1 - b ≡ 0 = cc in
          let all : b ≡ 2 ^ w - 1 = omega arith in
          ⊎_elim
          (λ (o : 2 ^ (w - 1) < a). let r : suc x < 2 ^ 127 = omega arith in r)
          (λ (o : a ≤ 2 ^ (w - 1)). let least : a ≡ 2 ^ (w - 1) = omega (arith, p.0) in absurd (divides_least w a b can least all))
          (cases_lt (2 ^ (w - 1)) a))
          (signed_cases w b l))
          (signed_cases w a k));
    }

-- the precondition of the division of an i128
pub divides_at : (w a b : ℕ) (x y : ℤ) → 1 ≤ w → w ≤ 128 → a < 2 ^ w → b < 2 ^ w → divides_signed w a b ≡ true → x ≡ signed_of w a → y ≡ signed_of w b → (0 < of_z w128 y) × SFits w128 (int_div (to_z w128 (of_z w128 x)) (to_z w128 (of_z w128 y)))
divides_at w a b x y low high k l can e f = (
  rw f (signed_nonzero w b low high (divides_nonzero w a b can) l),
  rw (e, f, to_z-of_z w128 (signed_of w a) (signed_fits w a low high k), to_z-of_z w128 (signed_of w b) (signed_fits w b low high l)) (quotient_fits w a b low high k l can),
)

-- the result of the division of an i128
pub quotient_at : (w a b : ℕ) (x y : ℤ) → 1 ≤ w → w ≤ 128 → a < 2 ^ w → b < 2 ^ w → divides_signed w a b ≡ true → x ≡ signed_of w a → y ≡ signed_of w b
    → to_z w128 (of_z w128 (int_div (to_z w128 (of_z w128 x)) (to_z w128 (of_z w128 y)))) ≡ int_div (signed_of w a) (signed_of w b)
quotient_at w a b x y low high k l can e f = rw (e, f) (quot_is w128 (signed_of w a) (signed_of w b) (signed_fits w a low high k) (signed_fits w b low high l) (quotient_fits w a b low high k l can))
