-- The slots that a release visits, in two lists.
use Rattle.std.specs.Prelude.{◌≡◌, ◌<◌, ◌⊎◌, ℕ, suc, List, length, nat_lt, Bool, ◌||◌, if◌then◌else◌, Option, Some, None, IfSome}
use Rattle.ir_store_lists.specs.Lists.{IsHead, home_at, free}
use Rattle.ir_store_slots.specs.Stored.{Gone}
use Rattle.ir_store_slots.specs.Rows.{Row, row_at}
use Rattle.ir_store_slots.specs.Right.{Used}

-- whether there are removed keys
abbrev pub has_gone : Gone → Bool
has_gone g = nat_lt 0 (length g.properties) || nat_lt 0 (length g.attributes)

-- the list of a slot: held operations, operations of the module with removed keys, or neither
abbrev pub mark : Row → Option ℕ
mark r = if r.live then (if has_gone r.gone then Some 1 else None) else (if r.used then Some 0 else None)

abbrev pub home_of : Option ℕ → ℕ
home_of None = free
home_of (Some h) = h

-- the node of a slot: it comes after the two heads
abbrev pub node_of_slot : ℕ → ℕ
node_of_slot k = suc (suc k)

-- each slot is in its list
pub record Marked (slots : List Row) (marks : List ℕ) : Type 0 where
  pub held : IsHead marks 0
  pub lacking : IsHead marks 1
  pub inside : (k : ℕ) → Used slots k → node_of_slot k < length marks
  pub home : (k : ℕ) → home_at marks (node_of_slot k) ≡ home_of (mark (row_at slots k))

-- slot k can be moved to another list
pub record CanMark (marks : List ℕ) (k : ℕ) : Type 0 where
  pub held : IsHead marks 0
  pub lacking : IsHead marks 1
  pub inside : node_of_slot k < length marks
  pub low : (home_at marks (node_of_slot k) ≡ free) ⊎ (home_at marks (node_of_slot k) < 2)

-- there are more nodes, in no list
pub record Reaches (marks more : List ℕ) : Type 0 where
  pub longer : length marks < suc (length more)
  pub same : (u : ℕ) → home_at more u ≡ home_at marks u

-- node u can be appended to a list
pub record CanPut (marks : List ℕ) (u : ℕ) (list : Option ℕ) : Type 0 where
  pub inside : u < length marks
  pub other : home_at marks u ≡ u → ⊥
  pub head : IfSome list (λ h. IsHead marks h)
  pub apart : IfSome list (λ h. h ≡ u → ⊥)
