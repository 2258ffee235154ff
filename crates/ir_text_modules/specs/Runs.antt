-- Ids in order.
use Rattle.std.specs.Prelude.{◌≡◌, ℕ, ◌+◌, List, [], ◌∷◌}

-- f maps these ids to n, n + 1, .. in order
abbrev pub Runs : (ℕ → ℕ) → ℕ → List ℕ → Type 0
Runs f n [] = Unit {0}
Runs f n (x ∷ xs) = (f x ≡ n) × Runs f (n + 1) xs
