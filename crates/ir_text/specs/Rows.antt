-- Separated lists of texts.
use Rattle.std.specs.Prelude.{ℕ, Bool, false, if◌then◌else◌, List, [], ◌∷◌, ◌++◌}

-- a list of texts with the mark before each one, except before the first if `first` is set
abbrev pub parted : List ℕ → Bool → List (List ℕ) → List ℕ
parted mark first [] = []
parted mark first (t ∷ ts) = (if first then [] else mark) ++ (t ++ parted mark false ts)
