-- Insertion points, in slots.
use Rattle.std.specs.Prelude.{option_map, ◌≡◌, ℕ, List, [], ◌∷◌, ◌++◌, map, eqb, slice_get, slice_set, Bool, not, ◌&&◌, if◌then◌else◌, Option, Some, None, option_and_then}
use Rattle.ir_store_lists.specs.Lists.{after, list_at, home_at, free, IsItem, put_before}
use Rattle.ir_store_arena.specs.trees.declared.place.Place.{Place}
use Rattle.ir_store_slots.specs.Rows.{Row, row_at, live_slot, head_in}

-- the lists after slot k is inserted into the list of head n: before another slot, or at the end
abbrev pub joined : ℕ → ℕ → Option ℕ → List (List ℕ) → List (List ℕ)
joined k n None lists = slice_set lists n (list_at lists n ++ k ∷ [])
joined k n (Some t) lists = map (put_before k t) lists

-- slot t is in the list of head n
pub record IsNodeIn (homes : List ℕ) (n t : ℕ) : Type 0 where
  pub item : IsItem homes t
  pub home : home_at homes t ≡ n

abbrev pub stands : List ℕ → ℕ → ℕ → Bool
stands homes n t = not (eqb (home_at homes t) free) && eqb (home_at homes t) n

-- the next slot, in the list of head n
abbrev pub at_slot : List ℕ → ℕ → ℕ → Option (ℕ × Option ℕ)
at_slot homes n t = if stands homes n t then Some (n, Some t) else None

abbrev pub before_in : List Row → (ℕ → Option ℕ) → List ℕ → Option ℕ → ℕ → Option (ℕ × Option ℕ)
before_in slots keys homes None n = Some (n, None)
before_in slots keys homes (Some b) n = option_and_then (at_slot homes n) (live_slot slots keys b)

-- the head of a place's list, and the next slot there
abbrev pub point_in : List Row → (ℕ → Option ℕ) → List ℕ → Place → Option (ℕ × Option ℕ)
point_in slots keys homes place =
    option_and_then (λ p. option_and_then (λ a. option_and_then (before_in slots keys homes place.before) (head_in a)) (slice_get (row_at slots p).shapes place.region)) (live_slot slots keys place.parent)

-- the operation in a slot
abbrev pub id_in : List Row → ℕ → ℕ
id_in slots k = (row_at slots k).head.id

-- the place of the operation in slot k
abbrev pub slot_place : List Row → List (List ℕ) → List ℕ → ℕ → Place
slot_place slots lists homes k = record {
  parent = id_in slots (row_at slots (home_at homes k)).owner;
  region = (row_at slots (home_at homes k)).region;
  before = option_map (id_in slots) (after k (list_at lists (home_at homes k)));
}
