-- Operations without the operations inside their blocks.
use Rattle.std.specs.Prelude.{ℕ, List, map, Option, Some, None}
use Rattle.ir_event.specs.trees.Tree.{OpOf, Op, op, RegionsOf, no_regions}
use Rattle.ir_event.specs.trees.Tree.{region, RegionOf, Region, empty, block, no_ops}
use Rattle.ir_event.specs.trees.Tree.{regions_of}
use Rattle.ir_event.specs.store.Nodes.{Node}

-- a region whose block has only its arguments
abbrev pub bare_region : {N T A : Type 0} → RegionOf N T A → RegionOf N T A
bare_region empty = empty
bare_region (block args os) = block args no_ops

-- the same for several regions
abbrev pub bare_regions : {N T A : Type 0} → RegionsOf N T A → RegionsOf N T A
bare_regions no_regions = no_regions
bare_regions (region g rs) = region (bare_region g) (bare_regions rs)

-- an operation with nothing inside its blocks
abbrev pub bare : {N T A : Type 0} → OpOf N T A → OpOf N T A
bare (op h rs) = op h (bare_regions rs)

-- the region whose block has these arguments, if it has a block
abbrev pub region_with : Option (List ℕ) → Region
region_with None = empty
region_with (Some args) = block args no_ops

-- operation x, read from a node, without the operations inside its blocks
abbrev pub bare_read : ℕ → Node → Op
bare_read x n = op (record n.head { id = x }) (regions_of (map region_with n.arguments))
