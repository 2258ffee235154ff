use Rattle.std.specs.Prelude.{◌≡◌, map, length}
use Rattle.ir_store_slots.specs.Rows.{shape_of}
use Rattle.ir_store_slots.specs.Index.{ArgHeads, args_idle}
use Rattle.ir_store_slots.proofs.use_lists.args_idle.Given as goal

abbrev pub invariant-areas : goal.invariant-areas
invariant-areas l =
    ArgHeads l.slots l.uses.homes (map shape_of l.rest)
    × (args_idle l.slots l.uses.lists (map shape_of l.rest) ≡ args_idle l.slots l.uses.lists (map shape_of l.areas))

abbrev pub decreases-areas : goal.decreases-areas
decreases-areas l = length l.rest
