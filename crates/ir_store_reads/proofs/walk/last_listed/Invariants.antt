use Rattle.std.proofs.Common.{◌≡◌, None, map, length}
use Rattle.ir_store_slots.specs.Rows.{shape_of}
use Rattle.ir_store_slots.specs.Plans.{AllHeads}
use Rattle.ir_store_reads.specs.Ends.{last_in}
use Rattle.ir_store_reads.proofs.walk.last_listed.Given as goal

abbrev pub invariant-areas : goal.invariant-areas
invariant-areas l = AllHeads l.sibs.homes (map shape_of l.rest) × (last_in l.sibs.lists None (map shape_of l.fn.areas) ≡ last_in l.sibs.lists l.last (map shape_of l.rest))

abbrev pub decreases-areas : goal.decreases-areas
decreases-areas l = length l.rest
