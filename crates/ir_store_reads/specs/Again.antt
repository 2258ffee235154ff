-- The conditions for reuse of a free slot.
use Rattle.std.specs.Prelude.{◌≡◌, ℕ, ◌+◌, ◌<◌, List, [], length, false}
use Rattle.ir_store_slots.specs.Lists.{IsHead, IsFree, list_at}
use Rattle.ir_store_slots.specs.trees.Tree.{Head}
use Rattle.ir_store_slots.specs.Rows.{Row, row_at}
use Rattle.ir_store_slots.specs.Index.{cell_at}
use Rattle.ir_store_slots.specs.Grows.{Parts}

-- n heads from b on are those of the values of slot k
abbrev pub HeadsOf : List ℕ → List (ℕ × ℕ) → ℕ → ℕ → ℕ → Type 0
HeadsOf homes cells k b n = (i : ℕ) → i < n → IsHead homes (b + i) × (cell_at cells (b + i) ≡ (k, i))

-- n nodes from b on are those of the operands of slot k, and in no list
abbrev pub NodesOf : List ℕ → List (ℕ × ℕ) → ℕ → ℕ → ℕ → Type 0
NodesOf homes cells k b n = (i : ℕ) → i < n → IsFree homes (b + i) × (cell_at cells (b + i) ≡ (k, i))

-- slot h is the head of an empty block with n arguments, of region i of slot k
pub record BlockFits (q : Parts) (k i h n : ℕ) : Type 0 where
  pub head : IsHead q.sibs.homes h
  pub owner : (row_at q.slots h).owner ≡ k
  pub region : (row_at q.slots h).region ≡ i
  pub bare : list_at q.sibs.lists h ≡ []
  pub arguments : HeadsOf q.homes q.cells h (row_at q.slots h).values n

-- row r of slot k is free, and has the nodes that an operation with header h needs
pub record RowFits (sibs homes : List ℕ) (cells : List (ℕ × ℕ)) (k : ℕ) (r : Row) (h : Head) : Type 0 where
  pub used : r.used ≡ false
  pub live : r.live ≡ false
  pub out : IsFree sibs k
  pub results : HeadsOf homes cells k r.values (length h.results)
  pub operands : NodesOf homes cells k r.uses (length h.operands)
