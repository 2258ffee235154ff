use Rattle.std.proofs.Common.{◌≡◌, length, ap, arith}
use Rattle.ir_store_slots.specs.Index.{cells_of}
use Rattle.ir_store_reads.specs.Uses.{uses_left}
use Rattle.ir_store_reads.proofs.Using.{counts_node, counts_on, counts_less, counts_short, few_left}
use Rattle.ir_store_reads.proofs.uses.UsesOf.len.Goals as goal

pub uses-init : goal.uses-init
uses-init c =
    let a = c.self.inside in
    let all : length (uses_left a.slots.now (cells_of a.cells.now.items) a.uses.now a.at) ≡ length c.args.self.now = ap length c.self.view_is in
    record { sum = omega (arith, all); node = c.self.invariant }

pub overflow_add-count : goal.overflow_add-count
overflow_add-count c =
    let a = c.self.inside in
    let slots = a.slots.now in
    let cells = cells_of a.cells.now.items in
    let short = counts_short slots cells a.uses.now c.laws.ensures (length c.args.self.now) c.uses.count c.in-Some.node c.uses.at c.in-Some.is c.uses.invariant in
    let all : length (uses_left slots cells a.uses.now a.at) ≡ length c.args.self.now = ap length c.self.view_is in
    omega (arith, short, all, few_left slots cells a.uses.now c.laws.ensures a.at)

pub next-at-requires : goal.next-at-requires
next-at-requires c =
    let a = c.self.inside in
    counts_node a.slots.now (cells_of a.cells.now.items) a.uses.now c.laws.ensures (length c.args.self.now) c.uses.count c.in-Some.node c.uses.at c.in-Some.is c.uses.invariant

pub uses-smaller : goal.uses-smaller
uses-smaller c =
    let a = c.self.inside in
    counts_less a.slots.now (cells_of a.cells.now.items) a.uses.now c.laws.ensures (length c.args.self.now) c.uses.count c.in-Some.node c.uses.at c.in-Some.is c.uses.invariant c.next-at.result c.next-at.ensures

pub uses-preserved : goal.uses-preserved
uses-preserved c =
    let a = c.self.inside in
    counts_on a.slots.now (cells_of a.cells.now.items) a.uses.now c.laws.ensures (length c.args.self.now) c.uses.count c.in-Some.node c.uses.at c.in-Some.is c.uses.invariant c.next-at.result c.next-at.ensures

pub returns : goal.returns
returns c =
    let a = c.self.inside in
    let none : length (uses_left a.slots.now (cells_of a.cells.now.items) a.uses.now c.uses.at) ≡ 0 = ap (λ z. length (uses_left a.slots.now (cells_of a.cells.now.items) a.uses.now z)) c.in_default.is in
    omega (arith, none, c.uses.invariant.sum)
