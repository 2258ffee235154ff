use Rattle.std.proofs.Common.{◌∙◌, sym, ap, arith, ◌<◌, length}
use Rattle.std.specs.Prelude.{option_and_then}
use Rattle.std.specs.FinMap as finmap
use Rattle.ir_store_lists.specs.Lists.{free}
use Rattle.ir_store_slots.specs.Rows.{live_slot}
use Rattle.ir_store_slots.specs.Index.{slot_head}
use Rattle.ir_store_slots.proofs.Heads.{live_head}
use Rattle.ir_store_slots.proofs.use_lists.live_head.Goals as goal

pub slot_head-requires : goal.slot_head-requires
slot_head-requires c = λ h e.
    let slots = c.args.slots.now in
    let keys = finmap.get c.args.keys.now in
    let w = c.requires.head h (live_head slots keys c.args.value.now h (ap (option_and_then (slot_head slots c.args.value.now)) (ap (live_slot slots keys) (sym c.owner.ensures) ∙ sym c.in_ok-key.ensures) ∙ e)) in
    let i : h < length c.args.uses.now.homes = w.inside in
    let f : length c.args.uses.now.homes < free = c.requires.few in
    omega arith
