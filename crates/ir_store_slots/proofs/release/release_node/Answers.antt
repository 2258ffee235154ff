use Rattle.std.proofs.Common.{◌∙◌, sym, refl, true, false, arith}
use Rattle.ir_store_slots.proofs.Listed.{node_item, node_marked}
use Rattle.ir_store_slots.proofs.release.release_node.Goals as goal

pub returns-then-release_slot-clause-marked : goal.returns-then-release_slot-clause-marked
returns-then-release_slot-clause-marked c =
    node_marked c.args.from c.args.slots.now c.release_slot.new.slots c.args.keys.now c.release_slot.new.keys c.args.marks.now.lists c.args.marks.now.homes c.remove.new.self.homes c.laws.ensures c.requires.marked c.args.node c.requires.there
    c.release_slot.ensures.slot true (sym c.release_slot.ensures.given ∙ c.if-release_slot.true) c.remove.ensures.homes

pub returns-else-release_slot-clause-marked : goal.returns-else-release_slot-clause-marked
returns-else-release_slot-clause-marked c =
    node_marked c.args.from c.args.slots.now c.release_slot.new.slots c.args.keys.now c.release_slot.new.keys c.args.marks.now.lists c.args.marks.now.homes c.args.marks.now.homes c.laws.ensures c.requires.marked c.args.node c.requires.there
    c.release_slot.ensures.slot false (sym c.release_slot.ensures.given ∙ c.if-release_slot.false) refl

pub release_slot-requires-clause-small : goal.release_slot-requires-clause-small
release_slot-requires-clause-small c =
    let i = node_item c.args.slots.now c.args.marks.now.lists c.args.marks.now.homes c.laws.ensures c.requires.marked c.args.node 0 (λ e. omega (arith, e)) c.requires.there in
    omega (arith, i.inside, c.laws.ensures.few)
