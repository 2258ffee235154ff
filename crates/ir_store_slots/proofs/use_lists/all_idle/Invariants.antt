use Rattle.std.specs.Prelude.{◌≡◌}
use Rattle.ir_store_slots.specs.Index.{AreHeads, all_idle}
use Rattle.ir_store_slots.proofs.use_lists.all_idle.Given as goal

abbrev pub invariant-heads : goal.invariant-heads
invariant-heads l = AreHeads l.at l.left l.uses.homes × (all_idle l.uses.lists l.at l.left ≡ all_idle l.uses.lists l.base l.count)

abbrev pub decreases-heads : goal.decreases-heads
decreases-heads l = l.left
