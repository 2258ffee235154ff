-- The sets of operations that belong to a table.
use Rattle.std.specs.Prelude.{◌≡◌, ℕ, ◌*◌, List, length, nat_lt, not, Bool, true, false, Option, Some, None, IsSome}
use Rattle.std.specs.Coded.{Coded-set, coded_bool, Π_prop}
use Rattle.listeners_support.specs.Bits.{has}
use Rattle.effects.specs.declared.row.Row.{Row}
use Rattle.effects.specs.Effects.{is_none}

-- whether an operation has the count 0
abbrev pub is_zero : Option ℕ → Bool
is_zero None = false
is_zero (Some n) = nat_lt n 1

-- whether an operation has an effect, by its entry
abbrev pub acts : Option Row → Bool
acts None = false
acts (Some r) = not (is_none r.has)

-- the set has exactly the operations whose entry passes the test
abbrev pub AreMarked : {V : Type 0} → (Option V → Bool) → (ℕ → Option V) → List ℕ → Type 0
AreMarked test table set = (x : ℕ) → has set x ≡ test (table x)

pub AreMarked-prop : {V : Type 0} (test : Option V → Bool) (table : ℕ → Option V) (set : List ℕ) → IsProp (AreMarked test table set)
AreMarked-prop test table set = Π_prop (λ x. Coded-set coded_bool (has set x) (test (table x)))

-- the set has capacity for each operation that has an entry
abbrev pub HasHeadroom : {V : Type 0} → (ℕ → Option V) → List ℕ → Type 0
HasHeadroom table set = (x : ℕ) → IsSome (table x) → nat_lt x (64 * length set) ≡ true

pub HasHeadroom-prop : {V : Type 0} (table : ℕ → Option V) (set : List ℕ) → IsProp (HasHeadroom table set)
HasHeadroom-prop table set = Π_prop (λ x. Π_prop (λ h. Coded-set coded_bool (nat_lt x (64 * length set)) true))
