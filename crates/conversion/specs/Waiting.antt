-- The waiting indices of a list: each that wasn't passed, and those to be visited again.
use Rattle.std.specs.Prelude.{◌≡◌, ◌⊎◌, ◌<◌, ℕ, suc, List, [], ◌∷◌, Option, Some, None, slice_get}
use Rattle.ir_event.specs.tree_laws.Members.{In}

-- index p is taken, the first that waits: the first index to be visited again, or the next one
pub data Took (passed : ℕ) (again : List ℕ) (passed2 : ℕ) (again2 : List ℕ) (p : ℕ) : Type 0 where
  of_again : again ≡ p ∷ again2 → passed2 ≡ passed → ((q : ℕ) → In q again2 → p < q)
      → Took passed again passed2 again2 p
  of_next : again ≡ [] → again2 ≡ [] → p ≡ passed → passed2 ≡ suc passed → Took passed again passed2 again2 p

-- each operation of a list is at its index
abbrev pub ArePlaces : List ℕ → (ℕ → Option ℕ) → Type 0
ArePlaces xs f = (q x : ℕ) → slice_get xs q ≡ Some x → f x ≡ Some q

-- the passed indices of some operations wait again, along with those that already waited
pub record Again (gs : List ℕ) (f : ℕ → Option ℕ) (passed : ℕ) (again : List ℕ) (passed2 : ℕ)
    (again2 : List ℕ) : Type 0 where
  pub same : passed2 ≡ passed
  pub more : (q : ℕ) → In q again → In q again2
  pub within : (q : ℕ) → In q again2 → In q again ⊎ (q < passed)
  pub added : (g q : ℕ) → In g gs → f g ≡ Some q → q < passed → In q again2

-- after an operation was erased, the defining operations of its operands wait again; if they aren't known, all indices
-- wait
abbrev pub Freed : Option (List ℕ) → (ℕ → Option ℕ) → ℕ → List ℕ → ℕ → List ℕ → Type 0
Freed None f passed again passed2 again2 = (passed2 ≡ 0) × (again2 ≡ [])
Freed (Some gs) f passed again passed2 again2 = Again gs f passed again passed2 again2

-- an index waits again, if it was passed
pub record Waits (p passed : ℕ) (again : List ℕ) (passed2 : ℕ) (again2 : List ℕ) : Type 0 where
  pub same : passed2 ≡ passed
  pub more : (q : ℕ) → In q again → In q again2
  pub within : (q : ℕ) → In q again2 → In q again ⊎ (q < passed)
  pub added : p < passed → In p again2
