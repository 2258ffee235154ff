-- A loop that looks for the first item that passes a test.
use Rattle.std.proofs.Common.{◌≡◌, ◌∙◌, ap, sym, ℕ, zero, suc, ◌+◌, Bool, true, false, List, [], ◌∷◌, drop, cond, Option, Some, add-one}
use Rattle.std.specs.Prelude.{slice_get}
use Rattle.std.specs.List.{position_from}

module _ {A : Type 0} where
  split_at : (n : ℕ) (xs : List A) (b : A) → slice_get xs n ≡ Some b → drop n xs ≡ b ∷ drop (suc n) xs
  split_at n [] b e = absurd cc
  split_at zero (x ∷ xs) b e = let same : x ≡ b = cc in ap (λ z. z ∷ xs) same
  split_at (suc n) (x ∷ xs) b e = split_at n xs b e

  module _ (p : A → Bool) (xs : List A) (n : ℕ) (b : A) (whole : Option ℕ) (get : slice_get xs n ≡ Some b) (h : position_from p n (drop n xs) ≡ whole) where
    left : drop n xs ≡ b ∷ drop (n + 1) xs
    left = split_at n xs b get ∙ ap (λ k. b ∷ drop k xs) (sym (add-one n))

    tested : cond (p b) (Some n) (position_from p (n + 1) (drop (n + 1) xs)) ≡ whole
    tested = sym (ap (position_from p n) left) ∙ h

    pub found_here : p b ≡ true → Some n ≡ whole
    found_here e = sym (ap (λ z. cond z (Some n) (position_from p (n + 1) (drop (n + 1) xs))) e) ∙ tested

    pub found_later : p b ≡ false → position_from p (n + 1) (drop (n + 1) xs) ≡ whole
    found_later e = sym (ap (λ z. cond z (Some n) (position_from p (n + 1) (drop (n + 1) xs))) e) ∙ tested
