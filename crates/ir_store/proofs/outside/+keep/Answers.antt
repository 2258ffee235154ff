use Rattle.std.proofs.Common.{◌≡◌, ◌<◌, ◌-◌, arith, ◌∙◌, sym, ap, subst, map, length, not}
use Rattle.ir_store_reads.specs.Lists.{list_at, after}
use Rattle.ir_store_reads.specs.Rows.{row_at, shape_of}
use Rattle.ir_store_reads.specs.Index.{ArgHeads, AreHeads, cells_of}
use Rattle.ir_store_reads.specs.Plans.{AllHeads}
use Rattle.ir_store_reads.specs.Right.{Live}
use Rattle.ir_store_reads.specs.Walks.{from_slot}
use Rattle.ir_store_reads.proofs.Walked.{Walks, listed_item, walk_start, walk_stops, walk_on, walk_less}
use Rattle.ir_store.specs.Outside.{leaves_use, lists_pass, shapes_keep, slot_keeps}
use Rattle.ir_store.proofs.Kept.{row_dead, row_fails, row_none, row_passes}
use Rattle.ir_store.proofs.outside.+keep.Goals as goal
use Rattle.ir_store.proofs.outside.+keep.Goals.{op_keeps-then-levels-eq0-via-then-levels-eq0, op_keeps-then-levels-eq0-via-else-levels-eq0+then-not-is_live}

pub list_keeps-ops-init : goal.list_keeps-ops-init
list_keeps-ops-init t c =
    let f = lists_pass c.args.uses.now.lists (λ u. not (leaves_use c.args.slots.now (cells_of c.args.cells.now.items) c.args.op c.args.store.now.module_of.tree u)) in
    walk_start c.args.sibs.now.lists (slot_keeps c.args.slots.now c.args.sibs.now.lists f c.args.levels) c.args.head _ c.first-at.ensures

pub list_keeps-returns-then-not-op_keeps : goal.list_keeps-returns-then-not-op_keeps
list_keeps-returns-then-not-op_keeps t c =
    let ls = c.args.sibs.now.lists in
    let f = lists_pass c.args.uses.now.lists (λ u. not (leaves_use c.args.slots.now (cells_of c.args.cells.now.items) c.args.op c.args.store.now.module_of.tree u)) in
    let p = slot_keeps c.args.slots.now ls f c.args.levels in
    sym (walk_stops ls p c.args.head (c.requires.laws.once c.args.head) c.in-Some.key (subst (Walks ls p c.args.head) c.in-Some.is c.ops.invariant) (sym c.op_keeps.ensures ∙ c.if-not-op_keeps.true))

pub list_keeps-next-at-requires : goal.list_keeps-next-at-requires
list_keeps-next-at-requires t c = listed_item c.args.sibs.now.lists c.args.sibs.now.homes c.requires.laws c.args.head c.in-Some.key c.requires.head (c.ops.invariant.there c.in-Some.key c.in-Some.is)

pub list_keeps-ops-smaller : goal.list_keeps-ops-smaller
list_keeps-ops-smaller t c =
    let ls = c.args.sibs.now.lists in
    let f = lists_pass c.args.uses.now.lists (λ u. not (leaves_use c.args.slots.now (cells_of c.args.cells.now.items) c.args.op c.args.store.now.module_of.tree u)) in
    let p = slot_keeps c.args.slots.now ls f c.args.levels in
    let m = c.requires.laws.members c.args.head c.in-Some.key (c.ops.invariant.there c.in-Some.key c.in-Some.is) in
    subst (λ z. length (from_slot c.next-at.result (list_at ls c.args.head)) < length (from_slot z (list_at ls c.args.head))) (sym c.in-Some.is)
    (walk_less ls p c.args.head (c.requires.laws.once c.args.head) c.in-Some.key (subst (Walks ls p c.args.head) c.in-Some.is c.ops.invariant) c.next-at.result (c.next-at.ensures ∙ ap (λ z. after c.in-Some.key (list_at ls z)) m.0))

pub list_keeps-ops-preserved : goal.list_keeps-ops-preserved
list_keeps-ops-preserved t c =
    let ls = c.args.sibs.now.lists in
    let f = lists_pass c.args.uses.now.lists (λ u. not (leaves_use c.args.slots.now (cells_of c.args.cells.now.items) c.args.op c.args.store.now.module_of.tree u)) in
    let p = slot_keeps c.args.slots.now ls f c.args.levels in
    let m = c.requires.laws.members c.args.head c.in-Some.key (c.ops.invariant.there c.in-Some.key c.in-Some.is) in
    walk_on ls p c.args.head (c.requires.laws.once c.args.head) c.in-Some.key (subst (Walks ls p c.args.head) c.in-Some.is c.ops.invariant) (sym c.op_keeps.ensures ∙ c.if-not-op_keeps.false) c.next-at.result (c.next-at.ensures ∙ ap (λ z. after c.in-Some.key (list_at ls z)) m.0)

pub op_keeps-returns-then-levels-eq0 : goal.op_keeps-returns-then-levels-eq0
op_keeps-returns-then-levels-eq0 t c =
    let f = lists_pass c.args.uses.now.lists (λ u. not (leaves_use c.args.slots.now (cells_of c.args.cells.now.items) c.args.op c.args.store.now.module_of.tree u)) in
    elim c.then-levels-eq0.branch [
      | op_keeps-then-levels-eq0-via-then-levels-eq0 w ↦ sym (row_none c.args.slots.now c.args.sibs.now.lists f c.args.key c.args.levels w.if-levels-eq0.true)
      | op_keeps-then-levels-eq0-via-else-levels-eq0+then-not-is_live w ↦ sym (row_dead c.args.slots.now c.args.sibs.now.lists f c.args.key c.args.levels (sym w.is_live.ensures ∙ w.if-not-is_live.true))
    ]

pub op_keeps-lists_keep-requires-clause-heads : goal.op_keeps-lists_keep-requires-clause-heads
op_keeps-lists_keep-requires-clause-heads t c =
    let live : Live c.args.slots.now c.args.key = record { live = sym c.is_live.ensures ∙ c.if-not-is_live.false } in
    let many : length c.results.result.now ≡ length (row_at c.args.slots.now c.args.key).head.results = ap length c.results.ensures in
    subst (λ n. AreHeads c.values.result n c.args.uses.now.homes) (sym many) (subst (λ z. AreHeads z (length (row_at c.args.slots.now c.args.key).head.results) c.args.uses.now.homes) (sym c.values.ensures) (c.requires.values c.args.key live).results)

pub op_keeps-returns-then-not-lists_keep : goal.op_keeps-returns-then-not-lists_keep
op_keeps-returns-then-not-lists_keep t c =
    let many : length c.results.result.now ≡ length (row_at c.args.slots.now c.args.key).head.results = ap length c.results.ensures in
    let f = lists_pass c.args.uses.now.lists (λ u. not (leaves_use c.args.slots.now (cells_of c.args.cells.now.items) c.args.op c.args.store.now.module_of.tree u)) in
    sym (row_fails c.args.slots.now c.args.sibs.now.lists f c.args.key c.args.levels ((λ i. f (sym c.values.ensures i) (sym many i)) ∙ sym c.lists_keep.ensures ∙ c.if-not-lists_keep.true))

pub op_keeps-areas_keep-requires : goal.op_keeps-areas_keep-requires
op_keeps-areas_keep-requires t c =
    let homes = c.args.uses.now.homes in
    let live : Live c.args.slots.now c.args.key = record { live = sym c.is_live.ensures ∙ c.if-not-is_live.false } in
    let heads : AllHeads c.args.sibs.now.homes (map shape_of c.areas.result.now) = subst (AllHeads c.args.sibs.now.homes) (sym c.areas.ensures) (c.requires.slots c.args.key live) in
    let arguments : ArgHeads c.args.slots.now homes (map shape_of c.areas.result.now) = subst (ArgHeads c.args.slots.now homes) (sym c.areas.ensures) (c.requires.values c.args.key live).arguments in
    (omega (arith, c.decreases, c.if-levels-eq0.false), (c.requires.there, (c.requires.slots, (c.requires.values, (c.requires.laws, (c.requires.chained, (heads, arguments)))))))

pub op_keeps-returns : goal.op_keeps-returns
op_keeps-returns t c =
    let many : length c.results.result.now ≡ length (row_at c.args.slots.now c.args.key).head.results = ap length c.results.ensures in
    let ls = c.args.sibs.now.lists in
    let f = lists_pass c.args.uses.now.lists (λ u. not (leaves_use c.args.slots.now (cells_of c.args.cells.now.items) c.args.op c.args.store.now.module_of.tree u)) in
    let pass = shapes_keep c.args.slots.now ls f (slot_keeps c.args.slots.now ls f (c.args.levels - 1)) in
    c.areas_keep.ensures ∙ ap pass c.areas.ensures
    ∙ sym (row_passes c.args.slots.now ls f c.args.key c.args.levels c.if-levels-eq0.false (sym c.is_live.ensures ∙ c.if-not-is_live.false) ((λ i. f (sym c.values.ensures i) (sym many i)) ∙ sym c.lists_keep.ensures ∙ c.if-not-lists_keep.false))
