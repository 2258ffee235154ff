-- Powers.
use Rattle.std.proofs.Common.{◌≡◌, ◌∙◌, ℕ, zero, suc, ◌-◌, ◌*◌, ◌^◌, ◌<◌, List, ◌∷◌, [], ◌++◌, replicate, sym, ap, subst, arith, append_assoc}
use Rattle.std.proofs.Math.Nat.{le-mul_of_pos_right, mul_assoc, pow-succ', pow-zero}
use Rattle.ir_types.proofs.Truths.{times_more}

power_pos : (m k : ℕ) → 0 < m → 0 < m ^ k
power_pos m zero l = subst (λ (x : ℕ). 0 < x) (sym (pow-zero m)) (omega arith)
power_pos m (suc k) l =
    let h = le-mul_of_pos_right m (power_pos m k l) in
    subst (λ (x : ℕ). 0 < x) (sym (pow-succ' m k)) (omega (arith, h, l))

factor_pos : (p m n : ℕ) → n < p * m → 0 < m
factor_pos p zero n l = absurd (omega (arith, l))
factor_pos p (suc m) n l = omega arith

-- one factor of a power
pub factor_out : (p m left : ℕ) → 0 < left → p * m ^ left ≡ (p * m) * m ^ (left - 1)
factor_out p m left l = ap (λ k. p * m ^ k) (times_more left l) ∙ ap (λ x. p * x) (pow-succ' m (left - 1)) ∙ sym (mul_assoc p m (m ^ (left - 1)))

pub exceeds : (p m left all most : ℕ) → 0 < left → p * m ^ left ≡ all → most < p * m → most < all
exceeds p m left all most l e more =
    let h = le-mul_of_pos_right (p * m) (power_pos m (left - 1) (factor_pos p m most more)) in
    let same = sym (factor_out p m left l) ∙ e in
    omega (arith, h, same, more)

pub one_less : (bounds whole : List ℕ) (left m : ℕ) → 0 < left → bounds ++ replicate left m ≡ whole → (bounds ++ (m ∷ [])) ++ replicate (left - 1) m ≡ whole
one_less bounds whole left m l e = append_assoc bounds (m ∷ []) (replicate (left - 1) m) ∙ sym (ap (λ k. bounds ++ replicate k m) (times_more left l)) ∙ e
