use Rattle.std.specs.Prelude.{◌≡◌}
use Rattle.ir_store_slots.specs.Index.{CanFree, freed}
use Rattle.ir_store_slots.proofs.use_lists.free_uses.Given as goal

abbrev pub invariant-nodes : goal.invariant-nodes
invariant-nodes l = CanFree l.at l.left l.uses.homes × (freed l.at l.left l.uses.homes ≡ freed l.base l.count l.initial.uses.homes)

abbrev pub decreases-nodes : goal.decreases-nodes
decreases-nodes l = l.left
