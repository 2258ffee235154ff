-- Pattern ops with their places, and unbound places.
use Rattle.std.proofs.Common.{◌≡◌, ℕ, zero, suc, ◌+◌, ◌-◌, ◌<◌, refl, ap, sym, ◌∙◌, List, [], ◌∷◌, ◌++◌, length, take, get_or, map, Option, None, arith}
use Rattle.std.specs.List.{range_with_len}
use Rattle.user_patterns_data.specs.declared.pattern.PatternOp.{PatternOp}
use Rattle.user_patterns_data.specs.Matching.{nothing, placed}

-- the last pattern op comes first
pub placed_last : (k : ℕ) (ps : List PatternOp) (n : ℕ) (d : PatternOp) → n < length ps → placed k (take (n + 1) ps) ≡ (k + n, get_or ps n d) ∷ placed k (take n ps)
placed_last k [] n d l = absurd (omega (arith, l))
placed_last k (p ∷ ps) zero d l = (let e : k ≡ k + 0 = omega arith in ap (λ z. (z, p) ∷ []) e)
placed_last k (p ∷ ps) (suc n) d l =
    let more = placed_last (k + 1) ps n d (omega (arith, l)) in
    let place : k + 1 + n ≡ k + suc n = omega arith in
    let many : suc n + 1 ≡ suc (n + 1) = omega arith in
    ap (λ z. placed k (take z (p ∷ ps))) many ∙ ap (λ z. z ++ (k, p) ∷ []) more ∙ ap (λ z. (z, get_or ps n d) ∷ (placed (k + 1) (take n ps) ++ (k, p) ∷ [])) place

-- lists of unbound places
module _ {V : Type 0} where
  abbrev from : ℕ → ℕ → List (Option V)
  from a k = map (λ i. None) (range_with_len a k)

  from_any : (a b k : ℕ) → from a k ≡ from b k
  from_any a b zero = refl
  from_any a b (suc k) = ap (λ z. None ∷ z) (from_any (a + 1) (b + 1) k)

  pub nothing_more : (k : ℕ) → nothing {V = V} (suc k) ≡ None ∷ nothing k
  nothing_more k = ap (λ z. None ∷ z) (from_any 1 0 k)

  pub nothing_sum : (a b : ℕ) → nothing {V = V} (a + b) ≡ nothing a ++ nothing b
  nothing_sum zero b = (let e : 0 + b ≡ b = omega arith in ap nothing e)
  nothing_sum (suc a) b = (let e : suc a + b ≡ suc (a + b) = omega arith in ap nothing e) ∙ nothing_more (a + b) ∙ ap (λ z. None ∷ z) (nothing_sum a b) ∙ sym (ap (λ z. z ++ nothing b) (nothing_more a))

  -- one unbound place is pushed
  pub one_nothing : (vs : List (Option V)) (k : ℕ) → 0 < k → (vs ++ None ∷ []) ++ nothing (k - 1) ≡ vs ++ nothing k
  one_nothing vs zero l = absurd (omega (arith, l))
  one_nothing [] (suc k) l = (let e : suc k - 1 ≡ k = omega arith in ap (λ j. None ∷ nothing j) e ∙ sym (nothing_more k))
  one_nothing (v ∷ vs) (suc k) l = ap (λ z. v ∷ z) (one_nothing vs (suc k) l)

  pub nothing_five : (e f g h i j : List (Option V)) (a b c d k : ℕ) → e ≡ [] → f ≡ e ++ nothing a → g ≡ f ++ nothing b → h ≡ g ++ nothing c → i ≡ h ++ nothing d → j ≡ i ++ nothing k → j ≡ nothing (a + b + c + d + k)
  nothing_five e f g h i j a b c d k empty one two three four five =
      let second = two ∙ ap (λ z. z ++ nothing b) (one ∙ ap (λ z. z ++ nothing a) empty) ∙ sym (nothing_sum a b) in
      let third = three ∙ ap (λ z. z ++ nothing c) second ∙ sym (nothing_sum (a + b) c) in
      let fourth = four ∙ ap (λ z. z ++ nothing d) third ∙ sym (nothing_sum (a + b + c) d) in
      five ∙ ap (λ z. z ++ nothing k) fourth ∙ sym (nothing_sum (a + b + c + d) k)
