-- Further invariants of the slots.
use Rattle.std.specs.Prelude.{◌≡◌, ℕ, List, [], true, false, length, ◌<◌, slice_get, Option, Some}
use Rattle.ir_store_lists.specs.Lists.{Lists, IsHead, IsItem, IsFree, free, home_at, list_at}
use Rattle.ir_store_arena.specs.trees.Tree.{Op}
use Rattle.ir_store_arena.specs.trees.Ids.{has_id}
use Rattle.ir_store_slots.specs.Rows.{Row, row_at}

-- the slot k holds an operation of the tree
pub record Live (slots : List Row) (k : ℕ) : Type 0 where
  pub live : (row_at slots k).live ≡ true

-- the slot k holds an operation
pub record Used (slots : List Row) (k : ℕ) : Type 0 where
  pub used : (row_at slots k).used ≡ true

-- the slot k holds the operation x
pub record HoldsId (slots : List Row) (x k : ℕ) : Type 0 where
  pub used : Used slots k
  pub id : (row_at slots k).head.id ≡ x

-- the operation in slot k is linked into a block
pub record Placed (homes : List ℕ) (k : ℕ) : Type 0 where
  pub item : IsItem homes k
  pub head : IsHead homes (home_at homes k)

-- a block of the operation in slot k: its list has a head with this owner and region
pub record BlockOf (slots : List Row) (homes : List ℕ) (k r : ℕ) (a : List ℕ × ℕ) : Type 0 where
  pub head : IsHead homes a.1
  pub owner : (row_at slots a.1).owner ≡ k
  pub region : (row_at slots a.1).region ≡ r

-- the operation in slot k isn't in the tree, and its blocks are empty
pub record Held (slots : List Row) (sibs : Lists) (k : ℕ) : Type 0 where
  pub out : IsFree sibs.homes k
  pub bare : (r : ℕ) (a : List ℕ × ℕ) → slice_get (row_at slots k).shapes r ≡ Some (Some a) → list_at sibs.lists a.1 ≡ []

-- the slots are consistent; `keys` maps ids to slots
pub record Right (slots : List Row) (keys : ℕ → Option ℕ) (sibs : Lists) (root : ℕ) (t : Op) : Type 0 where
  pub few : length sibs.homes < free
  pub long : length slots ≡ length sibs.homes
  pub live_used : (k : ℕ) → Live slots k → Used slots k
  pub keyed : (k : ℕ) → Used slots k → keys (row_at slots k).head.id ≡ Some k
  pub known : (x k : ℕ) → keys x ≡ Some k → HoldsId slots x k
  pub top : IsFree sibs.homes root
  pub blocks : (k r : ℕ) (a : List ℕ × ℕ) → Used slots k → slice_get (row_at slots k).shapes r ≡ Some (Some a) → BlockOf slots sibs.homes k r a
  pub items : (k : ℕ) → Live slots k → (k ≡ root → ⊥) → Placed sibs.homes k
  pub held : (k : ℕ) → Used slots k → (row_at slots k).live ≡ false → Held slots sibs k
  pub covers : (k : ℕ) → Live slots k → has_id (row_at slots k).head.id t ≡ true
