use Rattle.std.proofs.Common.{◌≡◌, ◌++◌, map, length}
use Rattle.ir_store_arena.specs.trees.View.{region_view}
use Rattle.ir_store_slots.specs.Rows.{shape_of}
use Rattle.ir_store_slots.specs.Grows.{parts_of, Wider, AreBlocks, bare_region}
use Rattle.ir_store_slots.specs.Emptied.{emptied_region}
use Rattle.ir_store_slots.proofs.grow.add_areas.Given as goal

abbrev pub invariant-regions : goal.invariant-regions
invariant-regions l =
    Wider (parts_of l.initial.slots l.initial.sibs l.initial.uses l.initial.cells.items) (parts_of l.slots l.sibs l.uses l.cells.items)
    × ((map bare_region (map shape_of l.areas.items) ++ map emptied_region (map region_view l.rest) ≡ map emptied_region (map region_view l.regions))
    × (AreBlocks (parts_of l.slots l.sibs l.uses l.cells.items) (length l.initial.uses.homes) l.owner (map shape_of l.areas.items)
    × (l.number ≡ length (map shape_of l.areas.items))))

abbrev pub decreases-regions : goal.decreases-regions
decreases-regions l = length l.rest
