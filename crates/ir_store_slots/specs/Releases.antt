-- The slots after held operations are released.
use Rattle.std.specs.Prelude.{◌≡◌, ℕ, List, length, eqb, nat_lt, Bool, true, false, not, ◌&&◌, if◌then◌else◌, Option, Some, None}
use Rattle.std.specs.Ordering.{nat_cmp}
use Rattle.std.specs.FinMap as map
use Rattle.ir_store_slots.specs.Stored.{none_gone}
use Rattle.ir_store_slots.specs.Rows.{Row, row_at}
use Rattle.ir_store_arena.specs.Rows.{vacated}
use Rattle.ir_store_slots.specs.Right.{Used, HoldsId}

-- whether the operation in a slot is released, in a release from an id on
abbrev pub is_given : ℕ → Row → Bool
is_given from r = r.used && (not r.live && not (nat_lt r.head.id from))

-- the slot after the release
abbrev pub given_up : ℕ → Row → Row
given_up from r = if is_given from r then vacated r else r

-- the slot of an operation of the module after its removed keys are released
abbrev pub forgetting : Row → Row
forgetting r = if r.live then record r { gone = none_gone } else r

-- both: a release from 0 on also releases the removed keys of the module's operations
abbrev pub released : ℕ → Row → Row
released from r = if is_given from r then vacated r else (if r.live && eqb from 0 then record r { gone = none_gone } else r)

-- the slot of an id after the release
abbrev pub key_left : ℕ → List Row → Option ℕ → Option ℕ
key_left from slots None = None
key_left from slots (Some k) = if is_given from (row_at slots k) then None else Some k

-- the same, if only the slots that pass a test were visited
abbrev pub key_so_far : ℕ → (ℕ → Bool) → List Row → Option ℕ → Option ℕ
key_so_far from seen slots None = None
key_so_far from seen slots (Some k) = if seen k && is_given from (row_at slots k) then None else Some k

-- the table maps each used id to its slot
pub record IsKeyed (slots : List Row) (keys : ℕ → Option ℕ) : Type 0 where
  pub keyed : (k : ℕ) → Used slots k → keys (row_at slots k).head.id ≡ Some k
  pub known : (x k : ℕ) → keys x ≡ Some k → HoldsId slots x k

-- the operation of one slot is released
pub record ReleasesSlot (from k : ℕ) (slots new : List Row) (keys left : map.FinMap nat_cmp ℕ) : Type 0 where
  pub long : length new ≡ length slots
  pub own : row_at new k ≡ given_up from (row_at slots k)
  pub others : (q : ℕ) → (q ≡ k → ⊥) → row_at new q ≡ row_at slots q
  pub key : left ≡ (if is_given from (row_at slots k) then map.remove keys (row_at slots k).head.id else keys)

-- the operation in the slot of an id is released, if the id has a slot
abbrev pub ReleasesId : (from : ℕ) → Option ℕ → (slots new : List Row) (keys left : map.FinMap nat_cmp ℕ) → Type 0
ReleasesId from None slots new keys left = (new ≡ slots) × (left ≡ keys)
ReleasesId from (Some k) slots new keys left = ReleasesSlot from k slots new keys left

-- the operations in the slots that pass a test are released
pub record ReleasesSome (from : ℕ) (seen : ℕ → Bool) (slots new : List Row) (keys left : ℕ → Option ℕ) : Type 0 where
  pub long : length new ≡ length slots
  pub past : (q : ℕ) → seen q ≡ true → row_at new q ≡ given_up from (row_at slots q)
  pub ahead : (q : ℕ) → seen q ≡ false → row_at new q ≡ row_at slots q
  pub key : (y : ℕ) → left y ≡ key_so_far from seen slots (keys y)

-- the operations in all slots are released
pub record GivenUp (from : ℕ) (slots new : List Row) (keys left : ℕ → Option ℕ) : Type 0 where
  pub long : length new ≡ length slots
  pub all : (q : ℕ) → row_at new q ≡ given_up from (row_at slots q)
  pub key : (y : ℕ) → left y ≡ key_left from slots (keys y)

-- the removed keys are released too
pub record Released (from : ℕ) (slots new : List Row) (keys left : ℕ → Option ℕ) : Type 0 where
  pub long : length new ≡ length slots
  pub all : (q : ℕ) → row_at new q ≡ released from (row_at slots q)
  pub key : (y : ℕ) → left y ≡ key_left from slots (keys y)

-- the removed keys of the module's operations are released
pub record Forgets (slots new : List Row) : Type 0 where
  pub long : length new ≡ length slots
  pub all : (q : ℕ) → row_at new q ≡ forgetting (row_at slots q)
