-- A region of an operation in a slot, as plain data.
use Rattle.std.specs.Prelude.{ℕ, List, Option, Some, None}
use Rattle.ir_store_arena.specs.declared.area.RegionData.{RegionData}
use Rattle.ir_store_arena.specs.declared.area.RegionData.TheVariants.{Empty, Block}

-- the arguments of a region's block, and the head of the list of its operations
abbrev pub RegionShape : Type 0
RegionShape = Option (List ℕ × ℕ)

abbrev pub shape_of : RegionData → RegionShape
shape_of Empty = None
shape_of (Block args node) = Some (args.items, node)
