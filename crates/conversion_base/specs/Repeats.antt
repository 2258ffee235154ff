-- Lists of names with the set of their names, and duplicates in them.
use Rattle.std.specs.Prelude.{◌≡◌, ℕ, Bool, false, ◌||◌, List, [], ◌∷◌, eqb}
use Rattle.std.specs.List.{list_any}
use Rattle.std.specs.Ordering.{nat_cmp}
use Rattle.std.specs.BTreeSet.{BTreeSet}
use Rattle.std.specs.BTreeSet as set

-- whether a list has a duplicate
abbrev pub has_duplicates : List ℕ → Bool
has_duplicates [] = false
has_duplicates (n ∷ ns) = list_any (eqb n) ns || has_duplicates ns

-- the set has exactly the names of the list, and the flag says whether the list has a duplicate
pub record AreKnown (names : List ℕ) (known : BTreeSet ℕ) (repeats : Bool) : Type 0 where
  pub has : (n : ℕ) → set.contains nat_cmp known n ≡ list_any (eqb n) names
  pub twice : repeats ≡ has_duplicates names
