use Rattle.std.specs.Prelude.{◌≡◌, map, length}
use Rattle.ir_store_slots.specs.Rows.{shape_of}
use Rattle.ir_store_slots.specs.Plans.{AllHeads, all_bare}
use Rattle.ir_store_slots.proofs.find.is_bare.Given as goal

abbrev pub invariant-areas : goal.invariant-areas
invariant-areas l = AllHeads l.sibs.homes (map shape_of l.rest) × (all_bare l.sibs.lists (map shape_of l.rest) ≡ all_bare l.sibs.lists (map shape_of l.areas))

abbrev pub decreases-areas : goal.decreases-areas
decreases-areas l = length l.rest
