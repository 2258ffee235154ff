-- The slots of ids.
use Rattle.std.specs.Prelude.{◌≡◌, ◌≤◌, ℕ, List, length, get_or, eqb, nat_lt, if◌then◌else◌, Option, Some, None}
use Rattle.std.specs.Ordering.{nat_cmp}
use Rattle.std.specs.Cmp.{nat_cmp_total}
use Rattle.std.specs.Coded.{Coded-set, coded_option, coded_ℕ, Π_prop}
use Rattle.std.proofs.Common.{sym, ◌∙◌}
use Rattle.std.specs.FinMap as map
use mathlib.Core.HLevel.{Σ_prop_path}

-- the number for no slot
abbrev pub no_slot : ℕ
no_slot = 4294967295

-- the slot that a number encodes
abbrev pub slot_of : ℕ → Option ℕ
slot_of n = if eqb n no_slot then None else Some n

-- the slot of an id: in the list `near` for ids below its length, otherwise by the function `far`
abbrev pub slot_in : List ℕ → (ℕ → Option ℕ) → ℕ → Option ℕ
slot_in near far x = if nat_lt x (length near) then slot_of (get_or near x no_slot) else far x

-- the map that agrees with a function: it is unique, so this type is a proposition
abbrev pub MapOf : (ℕ → Option ℕ) → Type 0
MapOf f = (m : map.FinMap nat_cmp ℕ) × ((x : ℕ) → map.get m x ≡ f x)

pub map_is : (f : ℕ → Option ℕ) (a : MapOf f) (m : map.FinMap nat_cmp ℕ) → ((x : ℕ) → map.get m x ≡ f x) → a.0 ≡ m
map_is f a m h = map.same_map nat_cmp_total map.nat_cmp-IsAntisymmetric a.0 m (λ x. a.1 x ∙ sym (h x))

pub MapOf-prop : (f : ℕ → Option ℕ) → IsProp (MapOf f)
MapOf-prop f a b =
    Σ_prop_path {B = λ m. (x : ℕ) → map.get m x ≡ f x} (λ m. Π_prop (λ x. Coded-set (coded_option coded_ℕ) (map.get m x) (f x))) {u = a} {v = b} (map_is f a b.0 b.1)

-- no id from a number on has a slot
abbrev pub EndsBy : ℕ → (ℕ → Option ℕ) → Type 0
EndsBy end f = (x : ℕ) → end ≤ x → f x ≡ None

pub EndsBy-prop : (end : ℕ) (f : ℕ → Option ℕ) → IsProp (EndsBy end f)
EndsBy-prop end f = Π_prop (λ x. Π_prop (λ h. Coded-set (coded_option coded_ℕ) (f x) None))
