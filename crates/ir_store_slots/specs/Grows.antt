-- New slots, and the preconditions of writing a row into one.
use Rattle.std.specs.Prelude.{◌≡◌, ◌⊎◌, ℕ, zero, suc, ◌+◌, ◌<◌, ◌≤◌, List, [], ◌∷◌, ◌++◌, map, length, slice_get, Bool, true, false, if◌then◌else◌, Option, Some, None}
use Rattle.ir_store_lists.specs.Lists.{Lists, IsHead, IsFree, list_at, home_at, free}
use Rattle.ir_store_arena.specs.trees.Tree.{Op, Region, empty, block, no_ops}
use Rattle.ir_store_slots.specs.Emptied.{emptied_region, emptied}
use Rattle.ir_store_arena.specs.trees.declared.value.Value.{Value}
use Rattle.ir_store_slots.specs.declared.row.UseNode.{UseNode}
use Rattle.ir_store_slots.specs.Rows.{Row, RegionShape, row_at, bare}
pub use Rattle.ir_store_arena.specs.Rows.{row_spare, row_held}
use Rattle.ir_store_slots.specs.Stored.{none_gone}
use Rattle.ir_store_arena.specs.tree_laws.Reasons.{with_id}
use Rattle.ir_store_slots.specs.Index.{cell_at, cells_of}

-- the slots and the use lists of a store
pub record Parts : Type 0 where
  pub slots : List Row
  pub sibs : Lists
  pub homes : List ℕ
  pub cells : List (ℕ × ℕ)

abbrev pub parts_of : List Row → Lists → Lists → List UseNode → Parts
parts_of slots sibs uses cells = record { slots = slots; sibs = sibs; homes = uses.homes; cells = cells_of cells }

-- slot k is free
pub record Spare (slots : List Row) (k : ℕ) : Type 0 where
  pub used : (row_at slots k).used ≡ false
  pub live : (row_at slots k).live ≡ false

-- there are as many rows as nodes of blocks, and as many cells as nodes of uses
pub record IsEven (p : Parts) : Type 0 where
  pub long : length p.slots ≡ length p.sibs.homes
  pub lists : length p.sibs.lists ≡ length p.sibs.homes
  pub counted : length p.cells ≡ length p.homes

-- slots and use lists with more free slots and nodes appended
pub record Wider (p q : Parts) : Type 0 where
  pub even : IsEven q
  pub more : length p.slots ≤ length q.slots
  pub row : (k : ℕ) → k < length p.slots → row_at q.slots k ≡ row_at p.slots k
  pub spare : (k : ℕ) → length p.slots ≤ k → Spare q.slots k
  pub lists : (k : ℕ) → list_at q.sibs.lists k ≡ list_at p.sibs.lists k
  pub home : (k : ℕ) → k < length p.slots → home_at q.sibs.homes k ≡ home_at p.sibs.homes k
  pub uses_more : length p.homes ≤ length q.homes
  pub use_home : (u : ℕ) → u < length p.homes → home_at q.homes u ≡ home_at p.homes u
  pub use_new : (u : ℕ) → length p.homes ≤ u → (home_at q.homes u ≡ free) ⊎ (home_at q.homes u ≡ u)
  pub cell : (u : ℕ) → u < length p.homes → cell_at q.cells u ≡ cell_at p.cells u

-- node h is the head of the use list of value i of slot n, and is at least the bound
pub record NewHead (q : Parts) (bound n i h : ℕ) : Type 0 where
  pub head : IsHead q.homes h
  pub cell : cell_at q.cells h ≡ (n, i)
  pub new : bound ≤ h

-- node u is the node of operand j of slot k, and is in no list
pub record NewUse (q : Parts) (k j u : ℕ) : Type 0 where
  pub inside : u < length q.homes
  pub cell : cell_at q.cells u ≡ (k, j)
  pub unlinked_home : home_at q.homes u ≡ free

-- an empty block for region i of slot k
pub record NewBlock (q : Parts) (bound k i : ℕ) (a : List ℕ × ℕ) : Type 0 where
  pub head : IsHead q.sibs.homes a.1
  pub owner : (row_at q.slots a.1).owner ≡ k
  pub region : (row_at q.slots a.1).region ≡ i
  pub bare : list_at q.sibs.lists a.1 ≡ []
  pub arguments : (j : ℕ) → j < length a.0 → NewHead q bound a.1 j ((row_at q.slots a.1).values + j)

-- row r of operation x may be written into slot k; the heads below the bound belong to other slots
pub record Ready (q : Parts) (keys : ℕ → Option ℕ) (bound k x : ℕ) (r : Row) : Type 0 where
  pub inside : k < length q.slots
  pub spare : Spare q.slots k
  pub out : IsFree q.sibs.homes k
  pub unknown : keys x ≡ None
  pub used : r.used ≡ true
  pub live : r.live ≡ false
  pub id : r.head.id ≡ x
  pub blocks : (i : ℕ) (a : List ℕ × ℕ) → slice_get r.shapes i ≡ Some (Some a) → NewBlock q bound k i a
  pub operands : (j : ℕ) (v : Value) → slice_get r.head.operands j ≡ Some v → NewUse q k j (r.uses + j)
  pub results : (i : ℕ) → i < length r.head.results → NewHead q bound k i (r.values + i)

-- the homes of n nodes appended after b of them: heads, or free nodes
abbrev pub run_homes : Bool → ℕ → ℕ → List ℕ
run_homes heads b zero = []
run_homes heads b (suc n) = run_homes heads b n ++ (if heads then b + n else free) ∷ []

-- the cells of n appended nodes
abbrev pub run_cells : ℕ → ℕ → List (ℕ × ℕ)
run_cells row zero = []
run_cells row (suc n) = run_cells row n ++ (row, n) ∷ []

-- n nodes were appended
pub record Runs (heads : Bool) (row n : ℕ) (old new : List ℕ) (cells more : List (ℕ × ℕ)) : Type 0 where
  pub nodes : new ≡ old ++ run_homes heads (length old) n
  pub meant : more ≡ cells ++ run_cells row n

-- the region of a shape
abbrev pub bare_region : RegionShape → Region
bare_region None = empty
bare_region (Some a) = block a.0 no_ops

-- the blocks of slot k, for region n and the following ones
abbrev pub AreBlocks : Parts → ℕ → ℕ → List RegionShape → Type 0
AreBlocks q bound k xs = (i : ℕ) (a : List ℕ × ℕ) → slice_get xs i ≡ Some (Some a) → NewBlock q bound k i a

-- a shape of region i of slot k
abbrev pub IsBlock : Parts → ℕ → ℕ → ℕ → RegionShape → Type 0
IsBlock q bound k i None = Unit {0}
IsBlock q bound k i (Some a) = NewBlock q bound k i a

-- an operation that can be written into slot k as x, with empty blocks; the heads below the bound belong to other slots
pub record Grown (bound : ℕ) (q : Parts) (x : ℕ) (o : Op) (k : ℕ) (r : Row) : Type 0 where
  pub ready : (keys : ℕ → Option ℕ) → keys x ≡ None → Ready q keys bound k x r
  pub is : bare r ≡ with_id x (emptied o)
  pub gone : r.gone ≡ none_gone

-- the parts with one more slot, whose node is a head or free
pub record AddsSlot (heads : Bool) (r : Row) (slots new : List Row) (sibs more : Lists) : Type 0 where
  pub row : new ≡ slots ++ r ∷ []
  pub lists : more.lists ≡ sibs.lists ++ [] ∷ []
  pub homes : more.homes ≡ sibs.homes ++ (if heads then length sibs.homes else free) ∷ []

-- the parts are unchanged
pub record KeepsSlots (slots new : List Row) (sibs more : Lists) : Type 0 where
  pub same : new ≡ slots
  pub kept : more ≡ sibs

-- the shapes are those of the regions with empty blocks
abbrev pub AreEmptied : List RegionShape → List Region → Type 0
AreEmptied xs gs = map bare_region xs ≡ map emptied_region gs
