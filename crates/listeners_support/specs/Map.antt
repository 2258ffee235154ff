-- Maps from ids, as contracts describe them: their entries, ordered by id.
use Rattle.std.specs.Prelude.{◌≡◌, ◌<◌, ℕ, ◌+◌, cond, List, [], ◌∷◌, Option, Some, None}
use Rattle.std.specs.Ordering.{nat_cmp}
use Rattle.std.specs.List.Sorted.{IsStrictlySortedBy}
use Rattle.std.specs.BTreeMap.{BTreeMap, is_at}
use Rattle.std.specs.BTreeMap as tree
use Rattle.std.specs.Map.{keys_of, lookup}

pub record IdMap (V : Type 0) : Type 0 where
  pub entries : List (ℕ × V)

module _ {V : Type 0} where
  -- the value of an id
  abbrev pub get : IdMap V → ℕ → Option V
  get m x = lookup (is_at (nat_cmp x)) m.entries

  abbrev pub IsEmpty : IdMap V → Type 0
  IsEmpty m = m.entries ≡ []

  -- the ids ascend
  abbrev pub IsOrdered : IdMap V → Type 0
  IsOrdered m = IsStrictlySortedBy nat_cmp (keys_of m.entries)

  abbrev pub IsUnchanged : IdMap V → IdMap V → Type 0
  IsUnchanged m n = n.entries ≡ m.entries

  -- in n the id x has the value w, or none, and each other id its value in m
  abbrev pub Updates : IdMap V → IdMap V → ℕ → Option V → Type 0
  Updates m n x w = (y : ℕ) → get n y ≡ cond (is_at (nat_cmp x) y) w (get m y)

  -- the values of a list for the ids from x on, with their ids
  abbrev pub entries_from : ℕ → List (Option V) → List (ℕ × V)
  entries_from x [] = []
  entries_from x (None ∷ slots) = entries_from (x + 1) slots
  entries_from x (Some v ∷ slots) = (x, v) ∷ entries_from (x + 1) slots

  -- no id below x has a value
  abbrev pub AreAfter : ℕ → BTreeMap ℕ V → Type 0
  AreAfter x m = (y : ℕ) → y < x → tree.get nat_cmp m y ≡ None
