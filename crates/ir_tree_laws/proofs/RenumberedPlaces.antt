-- The positions of numbers in a list.
use Rattle.std.proofs.Common.{◌≡◌, refl, ap, sym, ◌∙◌, ℕ, ◌+◌, true, false, cond, not, ◌||◌, eqb, List, [], ◌∷◌, ◌++◌, length, map, true≢false, eq-eqb, inl, inr, arith}
use Rattle.std.proofs.lemmas.Bool.{or_left, or_right}
use Rattle.std.proofs.lemmas.Bool.Decides.{eqb_tells}
use Rattle.std.specs.List.{AllByRecursion, IsDistinct, list_any, range_with_len}
use Rattle.ir_tree_laws.specs.Renumbered.{place_in, MapsApart}
use Rattle.ir_tree.proofs.of_types.Sorting.{flips_eq}

-- the position of a number that isn't the first
pub later : (x : ℕ) (xs : List ℕ) (y : ℕ) → eqb y x ≡ false → place_in (x ∷ xs) y ≡ 1 + place_in xs y
later x xs y e = ap (λ b. cond (not b) (1 + place_in xs y) 0) e

pub first : (x : ℕ) (xs : List ℕ) (y : ℕ) → eqb y x ≡ true → place_in (x ∷ xs) y ≡ 0
first x xs y e = ap (λ b. cond (not b) (1 + place_in xs y) 0) e

-- the positions of a list's numbers, after n others
places_from : (n : ℕ) (xs : List ℕ) (f : ℕ → ℕ) → IsDistinct eqb xs → AllByRecursion (λ y. f y ≡ n + place_in xs y) xs → map f xs ≡ range_with_len n (length xs)
unfolding IsDistinct
places_from n [] f d h = refl
places_from n (x ∷ xs) f d h =
    let here : f x ≡ n = h.0 ∙ ap (λ p. n + p) (first x xs x (eq-eqb x x refl)) ∙ omega arith in
    λ i. here i ∷ places_from (n + 1) xs f d.1 (onward xs d.0 h.1) i
  where
    onward : (ys : List ℕ) → AllByRecursion (λ y. eqb x y ≡ false) ys → AllByRecursion (λ y. f y ≡ n + place_in (x ∷ xs) y) ys → AllByRecursion (λ y. f y ≡ n + 1 + place_in xs y) ys
    onward [] a b = tt
    onward (y ∷ ys) a b = (b.0 ∙ ap (λ p. n + p) (later x xs y (flips_eq y x ∙ a.0)) ∙ omega arith, onward ys a.1 b.1)

all_same : (f : ℕ → ℕ) (xs ys : List ℕ) → ((y : ℕ) → f y ≡ 0 + place_in xs y) → AllByRecursion (λ y. f y ≡ 0 + place_in xs y) ys
all_same f xs [] h = tt
all_same f xs (y ∷ ys) h = (h y, all_same f xs ys h)

-- the positions of distinct numbers are 0, 1, ..
pub places : (xs : List ℕ) → IsDistinct eqb xs → map (place_in xs) xs ≡ range_with_len 0 (length xs)
places xs d = places_from 0 xs (place_in xs) d (all_same (place_in xs) xs xs (λ y. omega arith))

eqb_later : (a b : ℕ) → eqb (1 + a) (1 + b) ≡ eqb a b
eqb_later a b = elim (eqb_tells a b) [
  | inl e ↦ eq-eqb (1 + a) (1 + b) (ap (λ n. 1 + n) e.1) ∙ sym e.0
  | inr e ↦ elim (eqb_tells (1 + a) (1 + b)) [ inl d ↦ absurd (e.1 (same_later a b d.1)) | inr d ↦ d.0 ∙ sym e.0 ]
]
  where
    same_later : (a b : ℕ) → 1 + a ≡ 1 + b → a ≡ b
    same_later a b e = omega arith

differ : (x y z : ℕ) → x ≡ z → (y ≡ z → ⊥) → eqb x y ≡ false
differ x y z e n = elim (eqb_tells x y) [ inl d ↦ absurd (n (sym d.1 ∙ e)) | inr d ↦ d.0 ]

first_or_later : (n : ℕ) → eqb 0 (1 + n) ≡ false
first_or_later n = elim (eqb_tells 0 (1 + n)) [ inl d ↦ absurd (none n d.1) | inr d ↦ d.0 ]
  where
    none : (n : ℕ) → 0 ≡ 1 + n → ⊥
    none n e = omega arith

-- the positions of a list's numbers differ from those of all other numbers
pub places_tell : (xs : List ℕ) → MapsApart (place_in xs) xs
places_tell [] x y h = absurd (true≢false (sym h))
places_tell (z ∷ zs) x y h =
    elim (eqb_tells x z) [
      | inl a ↦ elim (eqb_tells y z) [
        | inl b ↦ (λ i. eqb (first z zs x a.0 i) (first z zs y b.0 i)) ∙ sym (eq-eqb x y (a.1 ∙ sym b.1))
        | inr b ↦ (λ i. eqb (first z zs x a.0 i) (later z zs y b.0 i)) ∙ first_or_later (place_in zs y) ∙ sym (differ x y z a.1 b.1)
      ]
      | inr a ↦ elim (eqb_tells y z) [
        | inl b ↦ (λ i. eqb (later z zs x a.0 i) (first z zs y b.0 i)) ∙ flips_eq (1 + place_in zs x) 0 ∙ first_or_later (place_in zs x) ∙ sym (flips_eq x y ∙ differ y x z b.1 a.1)
        | inr b ↦ (λ i. eqb (later z zs x a.0 i) (later z zs y b.0 i)) ∙ eqb_later (place_in zs x) (place_in zs y)
            ∙ places_tell zs x y (ap (λ c. c || list_any (λ w. eqb w y) zs) (sym (flips_eq z y ∙ b.0)) ∙ h)
      ]
    ]

-- the position of a number in a list without duplicates
pub place_at : (xs ys : List ℕ) (x : ℕ) → IsDistinct eqb (xs ++ x ∷ ys) → place_in (xs ++ x ∷ ys) x ≡ length xs
unfolding IsDistinct
place_at [] ys x d = first x ys x (eq-eqb x x refl)
place_at (z ∷ zs) ys x d = later z (zs ++ x ∷ ys) x (flips_eq x z ∙ trailing zs d.0) ∙ ap (λ n. 1 + n) (place_at zs ys x d.1) ∙ omega arith
  where
    trailing : (ws : List ℕ) → AllByRecursion (λ y. eqb z y ≡ false) (ws ++ x ∷ ys) → eqb z x ≡ false
    trailing [] h = h.0
    trailing (w ∷ ws) h = trailing ws h.1

-- distinct numbers are mapped to distinct numbers
pub distinct_with : (f : ℕ → ℕ) (xs : List ℕ) → MapsApart f xs → IsDistinct eqb xs → IsDistinct eqb (map f xs)
unfolding IsDistinct
distinct_with f [] t d = tt
distinct_with f (x ∷ xs) t d = (others xs d.0, distinct_with f xs (λ y z h. t y z (or_right (eqb x z) (list_any (λ w. eqb w z) xs) h)) d.1)
  where
    reported : (y : ℕ) → eqb (f x) (f y) ≡ eqb x y
    reported y = flips_eq (f x) (f y) ∙ t y x (or_left (eqb x x) (list_any (λ w. eqb w x) xs) (eq-eqb x x refl)) ∙ flips_eq y x

    others : (ys : List ℕ) → AllByRecursion (λ y. eqb x y ≡ false) ys → AllByRecursion (λ y. eqb (f x) y ≡ false) (map f ys)
    others [] h = tt
    others (y ∷ ys) h = (reported y ∙ h.0, others ys h.1)
