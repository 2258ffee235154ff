-- The uses by some of the operations.
use Rattle.std.specs.Prelude.{ℕ, List, [], ◌∷◌, eqb, Bool, not, if◌then◌else◌}
use Rattle.listeners.specs.declared.key.Use.{Use}

-- the uses whose users satisfy p
abbrev pub only : (ℕ → Bool) → List Use → List Use
only p [] = []
only p (u ∷ us) = if p u.user then u ∷ only p us else only p us

-- whether y is another operation than x
abbrev pub is_other : ℕ → ℕ → Bool
is_other x y = not (eqb x y)

-- the uses by other operations than x
abbrev pub others : ℕ → List Use → List Use
others x us = only (is_other x) us
