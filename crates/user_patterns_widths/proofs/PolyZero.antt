-- A polynomial whose coefficients are all 0 modulo 2^128 has the value 0 modulo 2^w. Equal polynomials have equal
-- values.
use Rattle.std.proofs.Common.{◌≡◌, ℕ, zero, suc, ◌+◌, ◌*◌, ◌%◌, ◌^◌, ◌≤◌, ◌==◌, List, [], ◌∷◌, ◌++◌, length, Bool, true, false, true≢false, if◌then◌else◌, inl, inr, sym, ap, refl, ◌∙◌, arith, eq-eqb}
use Rattle.std.specs.List.{list_all}
use Rattle.std.proofs.lemmas.Bool.{and_parts, cases_Bool, eqb-true}
use Rattle.user_patterns_widths.specs.Polynomials.{Polynomial, Term, are_one, coefficient, coefficient_of, is_zero, negated, same_places}
use Rattle.user_patterns_widths.proofs.PolyModulo.{IsSame, others_same, products_same, reduced, sums_same}
use Rattle.user_patterns_widths.proofs.PolyValues.{AreLow, factors, negated_value, sum_value, term_value, total}

-- ---- the same factors

pub places_same : (is js : List ℕ) → same_places is js ≡ true → is ≡ js
places_same [] [] e = refl
places_same [] (j ∷ js) e = absurd (true≢false (sym e))
places_same (i ∷ is) [] e = absurd (true≢false (sym e))
places_same (i ∷ is) (j ∷ js) e =
    let h = and_parts (i == j) (same_places is js) e in
    let first = eqb-true i j h.0 in
    let rest = places_same is js h.1 in
    λ k. first k ∷ rest k

pub places_itself : (is : List ℕ) → same_places is is ≡ true
places_itself [] = refl
places_itself (i ∷ is) = rw (eq-eqb i i refl) (places_itself is)

places_other : (is js : List ℕ) → same_places is js ≡ false → same_places js is ≡ false
places_other is js e = elim (cases_Bool (same_places js is)) [
  | inl h ↦ absurd (true≢false (sym (places_itself is) ∙ ap (same_places is) (sym (places_same js is h)) ∙ e))
  | inr h ↦ h
]

-- ---- the other terms

abbrev without : List ℕ → Polynomial → Polynomial
without places [] = []
without places (t ∷ ts) = if same_places places t.1 then without places ts else t ∷ without places ts

without_short : (places : List ℕ) (p : Polynomial) → length (without places p) ≤ length p
without_short places [] = omega arith
without_short places (t ∷ ts) = go (without_short places ts) (same_places places t.1)
  where
    go : length (without places ts) ≤ length ts → (b : Bool) → length (if b then without places ts else t ∷ without places ts) ≤ length (t ∷ ts)
    go l true = omega (arith, l)
    go l false = omega (arith, l)

without_other : (places others : List ℕ) (p : Polynomial) → same_places others places ≡ false → coefficient_of others (without places p) ≡ coefficient_of others p
without_other places others [] apart = refl
without_other places others (t ∷ ts) apart = go (without_other places others ts apart) (same_places places t.1) refl
  where
    kept : coefficient_of others (without places ts) ≡ coefficient_of others ts → (b : Bool)
        → (if b then coefficient (t.0 + coefficient_of others (without places ts)) else coefficient_of others (without places ts)) ≡ (if b then coefficient (t.0 + coefficient_of others ts) else coefficient_of others ts)
    kept e true = ap (λ n. coefficient (t.0 + n)) e
    kept e false = e

    go : coefficient_of others (without places ts) ≡ coefficient_of others ts → (b : Bool) → same_places places t.1 ≡ b
        → coefficient_of others (if b then without places ts else t ∷ without places ts) ≡ coefficient_of others (t ∷ ts)
    go e true is =
        let not : same_places others t.1 ≡ false = ap (same_places others) (sym (places_same places t.1 is)) ∙ apart in
        rw not e
    go e false is = kept e (same_places others t.1)

-- the remaining terms keep their coefficients
abbrev are_zero_in : Polynomial → Polynomial → Bool
are_zero_in p ts = list_all (λ (t : Term). coefficient_of t.1 p == 0) ts

without_zero : (places : List ℕ) (p q : Polynomial) → are_zero_in p q ≡ true → are_zero_in (without places p) (without places q) ≡ true
without_zero places p [] e = refl
without_zero places p (t ∷ ts) e =
    let h = and_parts (coefficient_of t.1 p == 0) (are_zero_in p ts) e in
    go h.0 (without_zero places p ts h.1) (same_places places t.1) refl
  where
    go : (coefficient_of t.1 p == 0) ≡ true → are_zero_in (without places p) (without places ts) ≡ true → (b : Bool) → same_places places t.1 ≡ b
        → are_zero_in (without places p) (if b then without places ts else t ∷ without places ts) ≡ true
    go here rest true is = rest
    go here rest false is = rw (without_other places t.1 p (places_other places t.1 is), here) rest

-- ---- values

module _ (V : ℕ → ℕ) (w : ℕ) (low : w ≤ 128) where
  abbrev Same : ℕ → ℕ → Type 0
  Same a b = IsSame (2 ^ w) a b

  -- the terms with the same factors, and the others
  split_value : (places : List ℕ) (p : Polynomial) → Same (total V p) (coefficient_of places p * factors V places + total V (without places p))
  split_value places [] = ap (λ n. n % 2 ^ w) (omega arith)
  split_value places (t ∷ ts) = go (split_value places ts) (same_places places t.1) refl
    where
      go : Same (total V ts) (coefficient_of places ts * factors V places + total V (without places ts)) → (b : Bool) → same_places places t.1 ≡ b
          → Same (term_value V t + total V ts) ((if b then coefficient (t.0 + coefficient_of places ts) else coefficient_of places ts) * factors V places + total V (if b then without places ts else t ∷ without places ts))
      go e true is =
          let c = coefficient_of places ts in
          let f = factors V places in
          let rest = total V (without places ts) in
          let one : t.0 * f + (c * f + rest) ≡ (t.0 + c) * f + rest = grind arith in
          ap (λ js. (t.0 * factors V js + total V ts) % 2 ^ w) (sym (places_same places t.1 is))
          ∙ sums_same (2 ^ w) (t.0 * f) (t.0 * f) (total V ts) (c * f + rest) refl e
          ∙ ap (λ n. n % 2 ^ w) one
          ∙ sums_same (2 ^ w) ((t.0 + c) * f) (coefficient (t.0 + c) * f) rest rest (products_same (2 ^ w) (t.0 + c) (coefficient (t.0 + c)) f f (sym (reduced w (t.0 + c) low)) refl) refl
      go e false is =
          let one : term_value V t + (coefficient_of places ts * factors V places + total V (without places ts)) ≡ coefficient_of places ts * factors V places + (term_value V t + total V (without places ts)) = omega arith in
          sums_same (2 ^ w) (term_value V t) (term_value V t) (total V ts) (coefficient_of places ts * factors V places + total V (without places ts)) refl e
          ∙ ap (λ n. n % 2 ^ w) one

  zero_value : (n : ℕ) (p : Polynomial) → length p ≤ n → is_zero p ≡ true → Same (total V p) 0
  zero_value n [] l e = refl
  zero_value zero (t ∷ ts) l e = absurd (omega (arith, l))
  zero_value (suc n) (t ∷ ts) l e =
      let p : Polynomial = t ∷ ts in
      let h = and_parts (coefficient_of t.1 p == 0) (are_zero_in p ts) e in
      let none : coefficient_of t.1 p ≡ 0 = eqb-true (coefficient_of t.1 p) 0 h.0 in
      let short : length (without t.1 p) ≤ n = rw (places_itself t.1) (omega (arith, l, without_short t.1 ts)) in
      let rest = zero_value n (without t.1 p) short (without_zero t.1 p p e) in
      split_value t.1 p ∙ ap (λ k. (k * factors V t.1 + total V (without t.1 p)) % 2 ^ w) none ∙ ap (λ k. k % 2 ^ w) (omega arith) ∙ rest

  pub ones_same : (p q : Polynomial) → AreLow q → are_one p q ≡ true → Same (total V p) (total V q)
  ones_same p q l e =
      others_same (2 ^ w) (total V p) (total V q) (total V (negated q))
      (ap (λ n. n % 2 ^ w) (sym (sum_value V p (negated q))) ∙ zero_value (length (p ++ negated q)) (p ++ negated q) (omega arith) e)
      (ap (λ n. n % 2 ^ w) (omega arith) ∙ negated_value V w low q l)
