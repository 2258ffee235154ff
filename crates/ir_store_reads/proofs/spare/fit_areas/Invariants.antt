use Rattle.std.proofs.Common.{◌≡◌, ◌++◌, map, length}
use Rattle.ir_store_slots.specs.trees.View.{region_view}
use Rattle.ir_store_slots.specs.Rows.{shape_of}
use Rattle.ir_store_slots.specs.Grows.{parts_of, AreBlocks, bare_region}
use Rattle.ir_store_slots.specs.Emptied.{emptied_region}
use Rattle.ir_store_reads.proofs.spare.fit_areas.Given as goal

abbrev pub invariant-regions : goal.invariant-regions
invariant-regions l =
    (map bare_region (map shape_of l.fitted.items) ++ map emptied_region (map region_view l.rest) ≡ map emptied_region (map region_view l.regions))
    × (AreBlocks (parts_of l.slots l.sibs l.uses l.cells.items) 0 l.owner (map shape_of l.fitted.items)
    × (l.number ≡ length (map shape_of l.fitted.items)))

abbrev pub decreases-regions : goal.decreases-regions
decreases-regions l = length l.rest
