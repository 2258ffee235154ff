-- Operations with empty blocks.
use Rattle.std.specs.Prelude.{ℕ}
use Rattle.std.specs.FinMap as map
use Rattle.ir_store_arena.specs.tree_laws.Reasons.{with_id}
use Rattle.ir_store_slots.specs.Stored.{Stored, none_gone}
use Rattle.ir_store_arena.specs.trees.Tree.{head, Op, op, Regions, no_regions, region, Region, empty, block, no_ops}

-- an operation with the operations in its blocks removed
abbrev pub emptied_region : Region → Region
emptied_region empty = empty
emptied_region (block args os) = block args no_ops

abbrev pub emptied_regions : Regions → Regions
emptied_regions no_regions = no_regions
emptied_regions (region g rs) = region (emptied_region g) (emptied_regions rs)

abbrev pub emptied : Op → Op
emptied (op h rs) = op h (emptied_regions rs)

-- operation o, with empty blocks, held as x
abbrev pub after_grow : ℕ → Op → Stored → Stored
after_grow x o s = record s { held = map.insert s.held x (with_id x (emptied o)); gone = map.insert s.gone x none_gone }

-- a module of one operation, with empty blocks
abbrev pub seeded : Op → ℕ → Stored
seeded o free = record { module_of = record { tree = emptied o; next = free }; held = map.empty; gone = map.insert map.empty (head o).id none_gone }
