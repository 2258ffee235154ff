-- The results of bitwise operations, and 0 and -1, by their bits.
use Rattle.std.proofs.Common.{◌≡◌, ℕ, zero, suc, ◌+◌, ◌-◌, ◌%◌, ◌^◌, ◌<◌, min, max, pos, refl, ap, sym, ◌∙◌, Bool, true, false, true≢false, Some, None, arith}
use Rattle.std.specs.Prelude.{◌==◌, bit_and, bit_or, bit_xor, nat_lt, nat_le, if◌then◌else◌}
use Rattle.std.specs.Int.{bit_at}
use Rattle.std.specs.Int.Bits.{and_self, and_zero_l, and_zero_r, or_self, or_zero_l, or_zero_r, xor_self, xor_zero_l, xor_zero_r}
use Rattle.std.proofs.lemmas.Bool.{eqb-true}
use Rattle.std.proofs.lemmas.Bool.Decides.{nat_tests}
use Rattle.std.proofs.lemmas.Nat.{and_le_l, or_lt, pow_pos, xor_lt}
use Rattle.std.proofs.Math.Nat.{pow-suc}
use Rattle.std.proofs.lemmas.Nat.Bits.{bit_at-lt, bit_at-zero, bit_at_and, bit_at_ones, bit_at_or, bit_at_xor}
use Rattle.ir_types.specs.declared.bits.BitsKind.{BitsKind}
use Rattle.ir_types.specs.declared.bits.BitsKind.TheVariants as kind
use Rattle.ir_types.specs.Bits.{type_of, width_of}
use Rattle.ir_types.specs.Limits.{index_width}
use Rattle.ir_types.specs.Readings.{literal_bits, literal_number, wrapped}
use Rattle.ir_types.specs.Reasons.{is_width}
use Rattle.ir_types.proofs.Widths.{literal_high, literal_low}
use Rattle.dialects_int.specs.declared.operations.Arithmetic.{Arithmetic}
use Rattle.dialects_int.specs.declared.operations.Arithmetic.TheVariants as op
use Rattle.dialects_int.specs.Arithmetic.{value_of}
use Rattle.user_patterns_widths.specs.AllWidths.{is_bitwise}

-- ---- operations

pub data BitOperation : Type 0 where
  by_and : BitOperation
  by_or : BitOperation
  by_exclusive_or : BitOperation

abbrev pub operation : BitOperation → Arithmetic
operation by_and = op.And
operation by_or = op.Or
operation by_exclusive_or = op.ExclusiveOr

abbrev pub way_of : Arithmetic → BitOperation
way_of op.Or = by_or
way_of op.ExclusiveOr = by_exclusive_or
way_of _ = by_and

pub way_back : (o : Arithmetic) → is_bitwise o ≡ true → operation (way_of o) ≡ o
way_back op.And e = refl
way_back op.Or e = refl
way_back op.ExclusiveOr e = refl
way_back _ e = absurd (true≢false (sym e))

abbrev pub combined : BitOperation → ℕ → ℕ → ℕ
combined by_and a b = bit_and a b
combined by_or a b = bit_or a b
combined by_exclusive_or a b = bit_xor a b

pub combined_value : (o : BitOperation) (w a b : ℕ) → value_of (operation o) w a b ≡ Some (combined o a b)
combined_value by_and w a b = refl
combined_value by_or w a b = refl
combined_value by_exclusive_or w a b = refl

pub combined_below : (o : BitOperation) (w a b : ℕ) → a < 2 ^ w → b < 2 ^ w → combined o a b < 2 ^ w
combined_below by_and w a b l h = let m = and_le_l a b in omega (arith, m, l)
combined_below by_or w a b l h = or_lt w a b l h
combined_below by_exclusive_or w a b l h = xor_lt w a b l h

-- ---- of single bits
one_and : (a b : ℕ) → a < 2 → b < 2 → min a b ≡ bit_and a b
one_and zero b l h = let e : min 0 b ≡ 0 = omega arith in e ∙ sym (and_zero_l b)
one_and (suc zero) zero l h = sym (and_zero_r 1)
one_and (suc zero) (suc zero) l h = sym (and_self 1)
one_and (suc zero) (suc (suc b)) l h = absurd (omega (arith, h))
one_and (suc (suc a)) b l h = absurd (omega (arith, l))

one_or : (a b : ℕ) → a < 2 → b < 2 → max a b ≡ bit_or a b
one_or zero b l h = let e : max 0 b ≡ b = omega arith in e ∙ sym (or_zero_l b)
one_or (suc zero) zero l h = sym (or_zero_r 1)
one_or (suc zero) (suc zero) l h = sym (or_self 1)
one_or (suc zero) (suc (suc b)) l h = absurd (omega (arith, h))
one_or (suc (suc a)) b l h = absurd (omega (arith, l))

one_xor : (a b : ℕ) → a < 2 → b < 2 → (a + b) % 2 ≡ bit_xor a b
one_xor zero b l h = let e : (0 + b) % 2 ≡ b = omega (arith, h) in e ∙ sym (xor_zero_l b)
one_xor (suc zero) zero l h = sym (xor_zero_r 1)
one_xor (suc zero) (suc zero) l h = sym (xor_self 1)
one_xor (suc zero) (suc (suc b)) l h = absurd (omega (arith, h))
one_xor (suc (suc a)) b l h = absurd (omega (arith, l))

-- each bit of a result is computed from the same bit of the operands
pub combined_bit : (o : BitOperation) (a b i : ℕ) → bit_at (combined o a b) i ≡ combined o (bit_at a i) (bit_at b i)
combined_bit by_and a b i = bit_at_and a b i ∙ one_and (bit_at a i) (bit_at b i) (bit_at-lt a i) (bit_at-lt b i)
combined_bit by_or a b i = bit_at_or a b i ∙ one_or (bit_at a i) (bit_at b i) (bit_at-lt a i) (bit_at-lt b i)
combined_bit by_exclusive_or a b i = bit_at_xor a b i ∙ one_xor (bit_at a i) (bit_at b i) (bit_at-lt a i) (bit_at-lt b i)

-- ---- 0 and -1
abbrev pub uniform : Bool → ℕ → ℕ
uniform true w = 2 ^ w - 1
uniform false w = 0

pub uniform_below : (b : Bool) (w : ℕ) → uniform b w < 2 ^ w
uniform_below true w = let h = pow_pos w in omega (arith, h)
uniform_below false w = pow_pos w

pub uniform_bit : (b : Bool) (w i : ℕ) → i < w → bit_at (uniform b w) i ≡ uniform b 1
uniform_bit true w i l = bit_at_ones w i l
uniform_bit false w i l = bit_at-zero i

-- 0 and -1 are literals of every kind
pub width_some : (w : ℕ) → is_width w ≡ true → 0 < w
width_some w e = grind (arith, nat_tests)

one_at_most : (w : ℕ) → nat_le 1 (2 ^ w) ≡ true
one_at_most w = let h = pow_pos w in grind (arith, nat_tests)

zero_less : (w : ℕ) → nat_lt 0 (2 ^ w) ≡ true
zero_less w = let h = pow_pos w in grind (arith, nat_tests)

one_less : (w : ℕ) → 0 < w → 1 < 2 ^ w
one_less zero l = absurd (omega (arith, l))
one_less (suc w) l = let h = pow_pos w in let e = pow-suc 2 w in omega (arith, h, e)

wrapped_ones : (w : ℕ) → 0 < w → wrapped w (literal_number true 1) ≡ 2 ^ w - 1
wrapped_ones w l = sym (literal_high w 1 (omega arith) (one_less w l)) ∙ omega arith

is_given : (c : Bool) (n m : ℕ) → c ≡ true → n ≡ m → (if c then Some n else None) ≡ Some m
is_given c n m e s = ap (λ b. if b then Some n else None) e ∙ ap Some s

pub uniform_literal : (k : BitsKind) (negative : Bool) (magnitude : ℕ) → 0 < width_of k → (if negative then magnitude == 1 else magnitude == 0) ≡ true
    → literal_bits (type_of k) negative magnitude ≡ Some (uniform negative (width_of k))
uniform_literal (kind.Int w) true m l e = rw (eqb-true m 1 e) (is_given (nat_le 1 (2 ^ (w - 1))) (wrapped w (literal_number true 1)) (2 ^ w - 1) (one_at_most (w - 1)) (wrapped_ones w l))
uniform_literal (kind.Int w) false m l e = rw (eqb-true m 0 e) (is_given (nat_lt 0 (2 ^ w)) (wrapped w (pos 0)) 0 (zero_less w) (sym (literal_low w 0 (pow_pos w))))
uniform_literal kind.Index true m l e = rw (eqb-true m 1 e) (is_given (nat_le 1 (2 ^ (index_width - 1))) (wrapped index_width (literal_number true 1)) (2 ^ index_width - 1) (one_at_most (index_width - 1)) (wrapped_ones index_width l))
uniform_literal kind.Index false m l e = rw (eqb-true m 0 e) (is_given (nat_lt 0 (2 ^ (index_width - 1))) (wrapped index_width (pos 0)) 0 (zero_less (index_width - 1)) (sym (literal_low index_width 0 (pow_pos index_width))))
