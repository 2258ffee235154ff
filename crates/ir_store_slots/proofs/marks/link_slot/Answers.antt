use Rattle.std.proofs.Common.{◌∙◌, ◌≡◌, ◌+◌, ap, set, arith}
use Rattle.ir_store_slots.specs.Rows.{row_at}
use Rattle.ir_store_slots.specs.Marks.{home_of, node_of_slot}
use Rattle.ir_store_slots.proofs.Marking.{can_put}
use Rattle.ir_store_slots.proofs.marks.link_slot.Goals as goal

pub set_home-requires : goal.set_home-requires
set_home-requires c = can_put c.args.marks.now.homes c.args.key (row_at c.args.slots.now c.args.key) (c.args.key + 2) c.mark_at.result c.laws.ensures.few (omega arith) c.mark_at.ensures c.requires

pub returns : goal.returns
returns c =
    let e : c.args.key + 2 ≡ node_of_slot c.args.key = omega arith in
    c.set_home.ensures ∙ ap (λ z. set c.args.marks.now.homes z (home_of c.mark_at.result)) e ∙ ap (λ o. set c.args.marks.now.homes (node_of_slot c.args.key) (home_of o)) c.mark_at.ensures
