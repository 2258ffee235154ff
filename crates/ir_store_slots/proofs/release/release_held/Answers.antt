use Rattle.std.proofs.Common.{◌<◌, ◌-◌, sym, subst, length, arith}
use Rattle.std.specs.FinMap as finmap
use Rattle.ir_store_lists.specs.Lists.{list_at}
use Rattle.ir_store_slots.specs.Releases.{is_given}
use Rattle.ir_store_slots.specs.Rows.{row_at}
use Rattle.ir_store_slots.specs.Walks.{from_slot}
use Rattle.ir_store_slots.proofs.Listed.{Sweeps, sweeps_start, sweeps_end, sweep_there, sweep_less, sweep_on, node_item}
use Rattle.ir_store_slots.proofs.release.release_held.Goals as goal

pub held-init : goal.held-init
held-init c = sweeps_start c.args.from c.args.slots.now (finmap.get c.args.keys.now) c.requires.keyed c.args.marks.now.lists c.args.marks.now.homes c.laws.ensures c.requires.marked c.first-at.result c.first-at.ensures

pub next-at-requires : goal.next-at-requires
next-at-requires c = node_item c.held.slots c.held.marks.lists c.held.marks.homes c.laws-in-Some.ensures c.held.invariant.marked c.in-Some.node 0 (λ e. omega (arith, e)) (sweep_there c.args.from c.args.slots.now c.held.slots (finmap.get c.args.keys.now) c.held.keys c.requires.keyed c.held.marks.lists c.held.marks.homes c.laws-in-Some.ensures c.in-Some.node (subst (Sweeps c.args.from c.args.slots.now c.held.slots (finmap.get c.args.keys.now) (finmap.get c.held.keys) (list_at c.held.marks.lists 0) c.held.marks.homes) c.in-Some.is c.held.invariant))

pub release_node-requires-clause-there : goal.release_node-requires-clause-there
release_node-requires-clause-there c = sweep_there c.args.from c.args.slots.now c.held.slots (finmap.get c.args.keys.now) c.held.keys c.requires.keyed c.held.marks.lists c.held.marks.homes c.laws-in-Some.ensures c.in-Some.node (subst (Sweeps c.args.from c.args.slots.now c.held.slots (finmap.get c.args.keys.now) (finmap.get c.held.keys) (list_at c.held.marks.lists 0) c.held.marks.homes) c.in-Some.is c.held.invariant)

pub held-smaller : goal.held-smaller
held-smaller c =
    subst (λ z. length (from_slot c.next-at.result (list_at c.release_node.new.marks.lists 0)) < length (from_slot z (list_at c.held.marks.lists 0))) (sym c.in-Some.is)
    (sweep_less c.args.from c.args.slots.now c.held.slots (finmap.get c.args.keys.now) c.held.keys c.requires.keyed c.held.marks.lists c.held.marks.homes c.laws-in-Some.ensures c.in-Some.node (subst (Sweeps c.args.from c.args.slots.now c.held.slots (finmap.get c.args.keys.now) (finmap.get c.held.keys) (list_at c.held.marks.lists 0) c.held.marks.homes) c.in-Some.is c.held.invariant) c.next-at.result c.next-at.ensures (is_given c.args.from (row_at c.held.slots (c.in-Some.node - 2))) (list_at c.release_node.new.marks.lists 0) c.release_node.ensures.list)

pub held-preserved : goal.held-preserved
held-preserved c =
    sweep_on c.args.from c.args.slots.now c.held.slots (finmap.get c.args.keys.now) c.held.keys c.requires.keyed c.held.marks.lists c.held.marks.homes c.laws-in-Some.ensures c.in-Some.node (subst (Sweeps c.args.from c.args.slots.now c.held.slots (finmap.get c.args.keys.now) (finmap.get c.held.keys) (list_at c.held.marks.lists 0) c.held.marks.homes) c.in-Some.is c.held.invariant) c.next-at.result c.next-at.ensures (is_given c.args.from (row_at c.held.slots (c.in-Some.node - 2))) (list_at c.release_node.new.marks.lists 0) c.release_node.ensures.list
    c.release_node.new.slots c.release_node.new.keys c.release_node.new.marks.homes c.release_node.ensures.slot c.release_node.ensures.marked

pub returns-clause-given : goal.returns-clause-given
returns-clause-given c =
    sweeps_end c.args.from c.args.slots.now c.held.slots (finmap.get c.args.keys.now) (finmap.get c.held.keys) c.requires.keyed (list_at c.held.marks.lists 0) c.held.marks.homes c.held.at c.in_default.is c.held.invariant
