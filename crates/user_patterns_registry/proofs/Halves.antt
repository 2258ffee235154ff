-- A loop over the patterns of a registry.
use Rattle.std.proofs.Common.{◌≡◌, ℕ, suc, ◌<◌, ◌≤◌, List, [], ◌∷◌, length, get_or, refl, arith}
use Rattle.user_patterns_registry.specs.declared.check_result.CheckSummary.{CheckSummary}
use Rattle.user_patterns_registry.specs.declared.registry.RegisteredPattern.{RegisteredPattern}
use Rattle.user_patterns_registry.specs.Registry.{kept_view, kept_views, noted, noted_one}

-- the items below index i changed as R says, and the others are unchanged
pub record Half {X : Type 0} (R : X → X → Type 0) (xs ys : List X) (i : ℕ) : Type 0 where
  pub long : length ys ≡ length xs
  pub below : (k : ℕ) (d : X) → k < i → R (get_or xs k d) (get_or ys k d)
  pub above : (k : ℕ) (d : X) → i ≤ k → get_or ys k d ≡ get_or xs k d

abbrev pub IsNoted : List ℕ → CheckSummary → RegisteredPattern → RegisteredPattern → Type 0
IsNoted name said old new = kept_view new ≡ noted_one name said (kept_view old)

all_noted : (name : List ℕ) (said : CheckSummary) (xs ys : List RegisteredPattern) → length ys ≡ length xs
    → ((k : ℕ) (d : RegisteredPattern) → k < length xs → IsNoted name said (get_or xs k d) (get_or ys k d)) → kept_views ys ≡ noted name said (kept_views xs)
all_noted name said [] [] e h = refl
all_noted name said [] (y ∷ ys) e h = absurd (omega arith)
all_noted name said (x ∷ xs) [] e h = absurd (omega arith)
all_noted name said (x ∷ xs) (y ∷ ys) e h =
    (λ i. h 0 x (omega arith) i ∷ all_noted name said xs ys (omega arith) (λ k d l. h (suc k) d (omega arith)) i)

pub half_noted : (name : List ℕ) (said : CheckSummary) (xs ys : List RegisteredPattern) (i : ℕ) → length ys ≤ i → Half (IsNoted name said) xs ys i → kept_views ys ≡ noted name said (kept_views xs)
half_noted name said xs ys i l h = all_noted name said xs ys h.long (λ k d lt. h.below k d (let e = h.long in omega arith))
