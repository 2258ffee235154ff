-- Runs of bytes that pass a test, by the first four bytes.
use Rattle.std.proofs.Common.{◌≡◌, refl, ℕ, ◌+◌, ◌-◌, ◌≤◌, Bool, true, false, List, [], ◌∷◌, length, get_or, take, drop, ap, ◌∙◌, arith}
use Rattle.std.specs.List.{prefix_len}

take_whole : (xs : List ℕ) → take (length xs) xs ≡ xs
take_whole [] = refl
take_whole (x ∷ xs) = ap (λ l. x ∷ l) (take_whole xs)

module _ (p : ℕ → Bool) where
  -- a byte that passes is part of the run, and one that doesn't ends the run
  passes : (a : ℕ) (xs : List ℕ) → p a ≡ true → prefix_len p (a ∷ xs) ≡ 1 + prefix_len p xs
  passes a xs t = rw t refl

  ends : (a : ℕ) (xs : List ℕ) → p a ≡ false → prefix_len p (a ∷ xs) ≡ 0
  ends a xs f = rw f refl

  pub stops_at_1 : (rest : List ℕ) → 4 ≤ length rest → p (get_or rest 0 0) ≡ false → prefix_len p rest ≡ 0
  stops_at_1 [] le f = absurd (omega (arith, le))
  stops_at_1 (a ∷ xs) le f = ends a xs f

  pub stops_at_2 : (rest : List ℕ) → 4 ≤ length rest → p (get_or rest 0 0) ≡ true → p (get_or rest 1 0) ≡ false → prefix_len p rest ≡ 1
  stops_at_2 [] le t f = absurd (omega (arith, le))
  stops_at_2 (a ∷ []) le t f = absurd (omega (arith, le))
  stops_at_2 (a ∷ b ∷ xs) le t f = omega (arith, passes a (b ∷ xs) t, ends b xs f)

  pub stops_at_3 : (rest : List ℕ) → 4 ≤ length rest → p (get_or rest 0 0) ≡ true → p (get_or rest 1 0) ≡ true → p (get_or rest 2 0) ≡ false → prefix_len p rest ≡ 2
  stops_at_3 [] le t u f = absurd (omega (arith, le))
  stops_at_3 (a ∷ []) le t u f = absurd (omega (arith, le))
  stops_at_3 (a ∷ b ∷ []) le t u f = absurd (omega (arith, le))
  stops_at_3 (a ∷ b ∷ c ∷ xs) le t u f = omega (arith, passes a (b ∷ c ∷ xs) t, passes b (c ∷ xs) u, ends c xs f)

  pub stops_at_4 : (rest : List ℕ) → 4 ≤ length rest → p (get_or rest 0 0) ≡ true → p (get_or rest 1 0) ≡ true → p (get_or rest 2 0) ≡ true → p (get_or rest 3 0) ≡ false → prefix_len p rest ≡ 3
  stops_at_4 [] le t u v f = absurd (omega (arith, le))
  stops_at_4 (a ∷ []) le t u v f = absurd (omega (arith, le))
  stops_at_4 (a ∷ b ∷ []) le t u v f = absurd (omega (arith, le))
  stops_at_4 (a ∷ b ∷ c ∷ []) le t u v f = absurd (omega (arith, le))
  stops_at_4 (a ∷ b ∷ c ∷ d ∷ xs) le t u v f = omega (arith, passes a (b ∷ c ∷ d ∷ xs) t, passes b (c ∷ d ∷ xs) u, passes c (d ∷ xs) v, ends d xs f)

  pub goes_on : (rest : List ℕ) → 4 ≤ length rest → p (get_or rest 0 0) ≡ true → p (get_or rest 1 0) ≡ true → p (get_or rest 2 0) ≡ true → p (get_or rest 3 0) ≡ true
      → prefix_len p rest ≡ 4 + prefix_len p (take (length rest - 4) (drop 4 rest))
  goes_on [] le t u v w = absurd (omega (arith, le))
  goes_on (a ∷ []) le t u v w = absurd (omega (arith, le))
  goes_on (a ∷ b ∷ []) le t u v w = absurd (omega (arith, le))
  goes_on (a ∷ b ∷ c ∷ []) le t u v w = absurd (omega (arith, le))
  goes_on (a ∷ b ∷ c ∷ d ∷ xs) le t u v w =
      let e : length (a ∷ b ∷ c ∷ d ∷ xs) - 4 ≡ length xs = omega arith in
      let same : prefix_len p (take (length (a ∷ b ∷ c ∷ d ∷ xs) - 4) xs) ≡ prefix_len p xs = ap (λ n. prefix_len p (take n xs)) e ∙ ap (prefix_len p) (take_whole xs) in
      omega (arith, passes a (b ∷ c ∷ d ∷ xs) t, passes b (c ∷ d ∷ xs) u, passes c (d ∷ xs) v, passes d xs w, same)
