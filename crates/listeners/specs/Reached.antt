-- The reached private definitions, for any relations: which operations are private definitions, which contain which,
-- and which reach which.
-- which, and which reach which.
use Rattle.std.specs.Prelude.{ℕ, zero, suc, List, [], length, eqb, Bool, not, ◌&&◌, ◌||◌}
use Rattle.std.specs.List.{list_any, list_all, filter}

-- the least set of private definitions with this property: if an operation y reaches x, and all private definitions
-- that contain y are in the set, then x is in the set
pub data IsReached (IsPrivate : ℕ → Type 0) (Under Reaches : ℕ → ℕ → Type 0) : ℕ → Type 0 where
  reached : (y x : ℕ) → IsPrivate x → Reaches y x
      → ((p : ℕ) → IsPrivate p → Under y p → IsReached IsPrivate Under Reaches p) → IsReached IsPrivate Under Reaches x

-- whether x is in the list
abbrev pub among : ℕ → List ℕ → Bool
among x xs = list_any (λ z. eqb z x) xs

-- the same set, computed: `privates` are the private definitions, `users` the operations, `under y` the operations
-- that contain y, and `to y` the operations that y reaches
module _ (privates users : List ℕ) (under to : ℕ → List ℕ) where
  -- whether all private definitions that contain y are in the set
  abbrev pub lives : List ℕ → ℕ → Bool
  lives set y = list_all (λ p. not (among p privates) || among p set) (under y)

  -- whether an operation reaches x that isn't inside a private definition outside the set
  abbrev pub joins : List ℕ → ℕ → Bool
  joins set x = list_any (λ y. among x (to y) && lives set y) users

  -- the private definitions that are reached in n rounds
  abbrev pub rounds : ℕ → List ℕ
  rounds zero = []
  rounds (suc n) = let set = rounds n in filter (joins set) privates

  -- as many rounds as there are private definitions are enough
  abbrev pub reached_ones : List ℕ
  reached_ones = rounds (length privates)
