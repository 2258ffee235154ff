-- The contents of the slots, as plain data.
use Rattle.std.specs.Prelude.{ℕ, List, [], ◌∷◌, map, not, ◌&&◌, if◌then◌else◌, option_map, Option, Some, None}
use Rattle.ir_store_arena.specs.trees.Tree.{Op, op, Regions, no_regions, region, empty, block, no_ops}
use Rattle.ir_store_slots.specs.Stored.{Gone}
use Rattle.ir_store_slots.specs.Nodes.{Node}
pub use Rattle.ir_store_arena.specs.Shapes.{RegionShape, shape_of}
pub use Rattle.ir_store_arena.specs.Rows.{Row, no_head, no_row, kept_head, row_at, row_with_operand, vacated}

-- the slot of an operation of the tree; `keys` maps ids to slots
abbrev pub if_live : List Row → Option ℕ → Option ℕ
if_live slots None = None
if_live slots (Some k) = if (row_at slots k).live then Some k else None

abbrev pub live_slot : List Row → (ℕ → Option ℕ) → ℕ → Option ℕ
live_slot slots keys x = if_live slots (keys x)

-- the operation of a slot, with empty blocks
abbrev pub bare_regions : List RegionShape → Regions
bare_regions [] = no_regions
bare_regions (None ∷ xs) = region empty (bare_regions xs)
bare_regions (Some a ∷ xs) = region (block a.0 no_ops) (bare_regions xs)

abbrev pub bare : Row → Op
bare r = op r.head (bare_regions r.shapes)

-- the held operations and the removed keys, as functions of the slots
abbrev pub held_in : List Row → Option ℕ → Option Op
held_in slots None = None
held_in slots (Some k) = if (row_at slots k).live then None else Some (bare (row_at slots k))

abbrev pub gone_in : List Row → Option ℕ → Option Gone
gone_in slots None = None
gone_in slots (Some k) = Some (row_at slots k).gone

-- the slot of a held operation
abbrev pub if_held : List Row → Option ℕ → Option ℕ
if_held slots None = None
if_held slots (Some k) = if (row_at slots k).used && not (row_at slots k).live then Some k else None

abbrev pub held_slot : List Row → (ℕ → Option ℕ) → ℕ → Option ℕ
held_slot slots keys x = if_held slots (keys x)

-- the head of a region's list
abbrev pub head_in : RegionShape → Option ℕ
head_in None = None
head_in (Some a) = Some a.1

-- the types of a block's arguments
abbrev pub shape_arguments : RegionShape → Option (List ℕ)
shape_arguments None = None
shape_arguments (Some a) = Some a.0

-- the node of the operation in a slot
abbrev pub node_row : Row → Node
node_row r = record { head = r.head; arguments = map (option_map (λ a. a.0)) r.shapes }
