-- Slices by their first items.
use Rattle.std.proofs.Common.{◌≡◌, ap, sym, ◌-◌, ◌<◌, ◌≤◌, List, [], ◌∷◌, length, get_or, take, drop, arith}
use Rattle.std.proofs.lemmas.List.{take_all}

pub one_item : {X : Type 0} (xs : List X) (a d : X) → 1 ≤ length xs → length xs < 2 → a ≡ get_or xs 0 d → xs ≡ a ∷ []
one_item [] a d h k e = absurd (omega (arith, h))
one_item (x ∷ []) a d h k e = ap (λ z. z ∷ []) (sym e)
one_item (x ∷ y ∷ xs) a d h k e = absurd (omega (arith, k))

pub two_items : {X : Type 0} (xs : List X) (a b d f : X) → 2 ≤ length xs → a ≡ get_or xs 0 d → b ≡ get_or xs 1 f → xs ≡ a ∷ b ∷ drop 2 xs
two_items [] a b d f h e g = absurd (omega (arith, h))
two_items (x ∷ []) a b d f h e g = absurd (omega (arith, h))
two_items (x ∷ y ∷ xs) a b d f h e g = λ i. sym e i ∷ sym g i ∷ xs

pub three_items : {X : Type 0} (xs : List X) (a b s d f p : X) → 3 ≤ length xs → a ≡ get_or xs 0 d → b ≡ get_or xs 1 f → s ≡ get_or xs 2 p → xs ≡ a ∷ b ∷ s ∷ take (length xs - 3) (drop 3 xs)
three_items [] a b s d f p h e g k = absurd (omega (arith, h))
three_items (x ∷ []) a b s d f p h e g k = absurd (omega (arith, h))
three_items (x ∷ y ∷ []) a b s d f p h e g k = absurd (omega (arith, h))
three_items (x ∷ y ∷ z ∷ xs) a b s d f p h e g k = λ i. sym e i ∷ sym g i ∷ sym k i ∷ sym (take_all (length (x ∷ y ∷ z ∷ xs) - 3) xs (omega arith)) i
