-- The values of expressions are in range of their types.
use Rattle.std.proofs.Common.{◌≡◌, ◌∙◌, ℕ, suc, ◌+◌, ◌^◌, ◌<◌, ◌≤◌, ◌==◌, ◌++◌, ◌⊎◌, inl, inr, List, [], ◌∷◌, length, length-append, Bool, true, false, nat_lt, if◌then◌else◌, pos, ◌-ℤ◌, refl, sym, ap, subst, arith}
use Rattle.std.proofs.lemmas.List.{append_assoc, append-nil}
use Rattle.std.proofs.lemmas.Nat.{and_le_l, or_lt, xor_lt, pow_pos}
use Rattle.std.proofs.Math.Nat.{div-le_self, mod-lt}
use Rattle.std.proofs.Math.Pow.{pow-lt}
use Rattle.ir_types.specs.Readings.{literal_number, signed_of}
use Rattle.ir_types.proofs.ReadingLaws.{bits_below}
use Rattle.dialects_int.specs.declared.operations.Predicate.TheVariants as predicate
use Rattle.dialects_int.specs.Arithmetic.{comparison_of, difference_of, sign_extended, sum_of, truth, zero_extended}
use Rattle.width_claims.proofs.Emitting.{last, longer, old}
use Rattle.width_claims.specs.declared.form.Form.{Form}
use Rattle.width_claims.specs.declared.form.Form.TheVariants as form
use Rattle.width_claims.specs.declared.form.Expr.{Expr}
use Rattle.width_claims.specs.PatternOpValues.{at, pattern_op_value, pattern_op_values}
use Rattle.width_claims.specs.Right.{AreRight, Has, IsBelow, IsRight, types}
use Rattle.user_patterns_instructions.proofs.PatternOps.{Is, many, pattern_op_types, values}

sum_low : (w a b : ℕ) → sum_of w a b < 2 ^ w
unfolding sum_of
sum_low w a b = mod-lt (a + b) (pow_pos w)

difference_low : (w a b : ℕ) → difference_of w a b < 2 ^ w
unfolding difference_of
difference_low w a b = bits_below w (pos a -ℤ pos b)

signs_low : (v w a : ℕ) → sign_extended v w a < 2 ^ w
unfolding sign_extended
signs_low v w a = bits_below w (signed_of v a)

zeros_low : (w a : ℕ) → zero_extended w a < 2 ^ w
unfolding zero_extended
zeros_low w a = mod-lt a (pow_pos w)

types_are : (ps : List Expr) (ts : List ℕ) → types ps ts ≡ ts ++ pattern_op_types ps
types_are [] ts = sym (append-nil ts)
types_are (p ∷ ps) ts = types_are ps (ts ++ p.ty ∷ []) ∙ append_assoc ts (p.ty ∷ []) (pattern_op_types ps)

module _ (W : ℕ) (vs ws : List ℕ) where
  abbrev AllLow : List ℕ → List ℕ → Type 0
  AllLow env ts = (length ts ≡ length env) × ((i : ℕ) → i < length env → at env i < 2 ^ at ws (at ts i))

  module _ (env ts : List ℕ) (all : AllLow env ts) (w : ℕ) (below : IsBelow W w) where
    low : (i : ℕ) → Has ws ts w i → at env i < 2 ^ w
    low i h = let long = all.0 in let l = h.0 in subst (λ (k : ℕ). at env i < 2 ^ k) h.1 (all.1 i (omega (arith, long, l)))

    truth_low : (b : Bool) → truth b < 2 ^ w
    truth_low b = small b below.0
      where
        small : (c : Bool) → 1 ≤ w → truth c < 2 ^ w
        small true h = let g = pow-lt {i = 0} {j = w} h in omega (arith, g)
        small false h = pow_pos w

    form_low : (f : Form) → IsRight W ws ts w f → pattern_op_value ws vs w f env < 2 ^ w
    form_low (form.Value i) r = mod-lt (at vs i) (pow_pos w)
    form_low (form.Literal k) r = bits_below w (literal_number false k)
    form_low (form.Negative k) r = bits_below w (literal_number true k)
    form_low (form.Add i j) r = sum_low w (at env i) (at env j)
    form_low (form.Subtract i j) r = difference_low w (at env i) (at env j)
    form_low (form.And i j) r = let l = low i r.0 in let h = and_le_l (at env i) (at env j) in omega (arith, l, h)
    form_low (form.Or i j) r = or_lt w (at env i) (at env j) (low i r.0) (low j r.1)
    form_low (form.ExclusiveOr i j) r = xor_lt w (at env i) (at env j) (low i r.0) (low j r.1)
    form_low (form.Same i j) r = truth_low (at env i == at env j)
    form_low (form.Less i j) r = truth_low (nat_lt (at env i) (at env j))
    form_low (form.LessSigned u i j) r = truth_low (comparison_of (at ws u) predicate.SignedLess (at env i) (at env j))
    form_low (form.Select c i j) r = chosen (at env c == 0)
      where
        chosen : (b : Bool) → (if b then at env j else at env i) < 2 ^ w
        chosen true = low j r.2
        chosen false = low i r.1
    form_low (form.Signs u i) r = signs_low (at ws u) w (at env i)
    form_low (form.Resize u i) r = signs_low (at ws u) w (at env i)
    form_low (form.Zeros i) r = zeros_low w (at env i)
    form_low (form.Cut i) r = mod-lt (at env i) (pow_pos w)
    form_low (form.Quotient i k) r = let l = low i r in let h = div-le_self (at env i) (suc k) in omega (arith, l, h)

  one_more : (env ts : List ℕ) (t v : ℕ) → AllLow env ts → v < 2 ^ at ws t → AllLow (env ++ v ∷ []) (ts ++ t ∷ [])
  one_more env ts t v all l = (
    longer ts t (length env) all.0 ∙ sym (length-append env (v ∷ [])),
    λ i h. elim (last_or i (length env) (subst (λ (k : ℕ). i < k) (length-append env (v ∷ [])) h)) [
      | inl g ↦ (
          let long = all.0 in
          subst (λ (x : ℕ). x < 2 ^ at ws (at (ts ++ t ∷ []) i)) (sym (old env v i g)) (subst (λ (u : ℕ). at env i < 2 ^ at ws u) (sym (old ts t i (omega (arith, g, long)))) (all.1 i g)))
      | inr g ↦ (subst (λ (x : ℕ). x < 2 ^ at ws (at (ts ++ t ∷ []) i)) (sym (last env v i (sym g))) (subst (λ (u : ℕ). v < 2 ^ at ws u) (sym (last ts t i (all.0 ∙ sym g))) l))
    ],
  )
    where
      last_or : (i k : ℕ) → i < k + 1 → (i < k) ⊎ (i ≡ k)
      last_or i k l = grind arith

  all_low : (ps : List Expr) (env ts : List ℕ) → AllLow env ts → AreRight W ws ps ts → AllLow (pattern_op_values ws vs ps env) (types ps ts)
  all_low [] env ts all r = all
  all_low (p ∷ ps) env ts all r =
      let w = at ws p.ty in
      let v = pattern_op_value ws vs w p.form env in
      all_low ps (env ++ v ∷ []) (ts ++ p.ty ∷ []) (one_more env ts p.ty v all (form_low env ts all w r.0 p.form r.1)) r.2

  -- a value is below 2^w
  pub value_below : (ps : List Expr) (i t v : ℕ) → AreRight W ws ps [] → Is W vs ws ps i t v → v < 2 ^ at ws t
  value_below ps i t v r is =
      let all = all_low ps [] [] (refl, λ j l. absurd (omega (arith, l))) r in
      let l = is.below in
      let n = many W vs ws ps in
      subst (λ (x : ℕ). x < 2 ^ at ws t) is.value
      (subst (λ (u : ℕ). at (values W vs ws ps) i < 2 ^ at ws u) (ap (λ us. at us i) (types_are ps []) ∙ is.type) (all.1 i (omega (arith, l, n))))
