-- Interning an item by its index in a list.
use Rattle.std.specs.Prelude.{◌≡◌, ℕ, Bool, List, [], ◌∷◌, ◌++◌, slice_get, Some, if◌then◌else◌}
use Rattle.std.specs.List.{list_any}

-- the list with the item appended, if no item of the list passes the test
abbrev pub with_last : {A : Type 0} → (A → Bool) → A → List A → List A
with_last is thing things = if list_any is things then things else things ++ thing ∷ []

-- all items of a list are distinct
abbrev pub AreApart : {A : Type 0} → List A → Type 0
AreApart {A} things = (i j : ℕ) (x : A) → slice_get things i ≡ Some x → slice_get things j ≡ Some x → i ≡ j
