use Rattle.std.proofs.Common.{◌∙◌, ◌<◌, [], sym, ap, length, get_or, arith}
use Rattle.ir_store_slots.specs.Index.{cells_of}
use Rattle.ir_store_reads.proofs.Using.{each_at, each_length}
use Rattle.ir_store_reads.proofs.result_uses.ResultUses.of.Goals as goal

pub overflow_add-head : goal.overflow_add-head
overflow_add-head c =
    let a = c.self.inside in
    let many = ap length c.self.view_is in
    let count = each_length a.slots.now (cells_of a.cells.now.items) a.uses.now.lists a.first a.count in
    let within = c.requires in
    let less : c.args.place < a.count = omega (arith, many, count, within) in
    let inside = (c.self.invariant.heads c.args.place less).inside in
    let few = c.self.invariant.few in
    omega (arith, inside, few)

pub uses_from-requires : goal.uses_from-requires
uses_from-requires c =
    let a = c.self.inside in
    let many = ap length c.self.view_is in
    let count = each_length a.slots.now (cells_of a.cells.now.items) a.uses.now.lists a.first a.count in
    let within = c.requires in
    c.self.invariant.heads c.args.place (omega (arith, many, count, within))

pub returns : goal.returns
returns c =
    let a = c.self.inside in
    let slots = a.slots.now in
    let cells = cells_of a.cells.now.items in
    let many = ap length c.self.view_is in
    let count = each_length slots cells a.uses.now.lists a.first a.count in
    let within = c.requires in
    let less : c.args.place < a.count = omega (arith, many, count, within) in
    c.uses_from.ensures ∙ sym (each_at slots cells a.uses.now.lists a.first a.count c.args.place less)
    ∙ ap (λ l. get_or l c.args.place []) c.self.view_is
