use Rattle.std.proofs.Common.{◌∙◌, sym, ap, arith, ◌<◌, length}
use Rattle.std.specs.Prelude.{option_and_then}
use Rattle.std.specs.FinMap as finmap
use Rattle.ir_store_lists.specs.Lists.{free}
use Rattle.ir_store_slots.specs.Index.{slot_head}
use Rattle.ir_store_slots.proofs.use_lists.value_head.Goals as goal

pub slot_head-requires : goal.slot_head-requires
slot_head-requires c = λ h e.
    let w = c.requires.head h (ap (option_and_then (slot_head c.args.slots.now c.args.value.now)) (ap (finmap.get c.args.keys.now) (sym c.owner.ensures) ∙ sym c.in_ok-key.ensures) ∙ e) in
    let i : h < length c.args.uses.now.homes = w.inside in
    let f : length c.args.uses.now.homes < free = c.requires.few in
    omega arith
