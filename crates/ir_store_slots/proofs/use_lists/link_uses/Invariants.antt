use Rattle.std.specs.Prelude.{◌≡◌, length}
use Rattle.std.specs.FinMap as finmap
use Rattle.ir_store_slots.specs.Index.{CanLead, all_led, value_head}
use Rattle.ir_store_slots.proofs.use_lists.link_uses.Given as goal

abbrev pub invariant-operands : goal.invariant-operands
invariant-operands l =
    CanLead (value_head l.slots (finmap.get l.keys)) l.at l.rest l.uses.homes
    × (all_led (value_head l.slots (finmap.get l.keys)) l.at l.rest l.uses.homes ≡ all_led (value_head l.slots (finmap.get l.keys)) l.base l.operands l.initial.uses.homes)

abbrev pub decreases-operands : goal.decreases-operands
decreases-operands l = length l.rest
