use Rattle.std.proofs.Common.{◌<◌, ◌-◌, arith, ◌∙◌, sym, ap, subst, length}
use Rattle.ir_store_slots.specs.Lists.{list_at, after}
use Rattle.ir_store_slots.specs.Plans.{AllHeads}
use Rattle.ir_store_slots.specs.Right.{Live}
use Rattle.ir_store_slots.specs.Walks.{slot_fits, shapes_pass, from_slot}
use Rattle.ir_store_slots.proofs.Walked.{Walks, fits_row, listed_item, walk_start, walk_stops, walk_on, walk_less}
use Rattle.ir_store_reads.proofs.depth.+fits_in.Goals as goal

pub list_fits-ops-init : goal.list_fits-ops-init
list_fits-ops-init t c = walk_start c.args.sibs.now.lists (slot_fits c.args.slots.now c.args.sibs.now.lists c.args.headroom) c.args.head _ c.first-at.ensures

pub list_fits-returns-then-not-op_fits : goal.list_fits-returns-then-not-op_fits
list_fits-returns-then-not-op_fits t c =
    let ls = c.args.sibs.now.lists in
    let p = slot_fits c.args.slots.now ls c.args.headroom in
    sym (walk_stops ls p c.args.head (c.requires.laws.once c.args.head) c.in-Some.key (subst (Walks ls p c.args.head) c.in-Some.is c.ops.invariant) (sym c.op_fits.ensures ∙ c.if-not-op_fits.true))

pub list_fits-next-at-requires : goal.list_fits-next-at-requires
list_fits-next-at-requires t c = listed_item c.args.sibs.now.lists c.args.sibs.now.homes c.requires.laws c.args.head c.in-Some.key c.requires.head (c.ops.invariant.there c.in-Some.key c.in-Some.is)

pub list_fits-ops-smaller : goal.list_fits-ops-smaller
list_fits-ops-smaller t c =
    let ls = c.args.sibs.now.lists in
    let p = slot_fits c.args.slots.now ls c.args.headroom in
    let m = c.requires.laws.members c.args.head c.in-Some.key (c.ops.invariant.there c.in-Some.key c.in-Some.is) in
    subst (λ z. length (from_slot c.next-at.result (list_at ls c.args.head)) < length (from_slot z (list_at ls c.args.head))) (sym c.in-Some.is)
    (walk_less ls p c.args.head (c.requires.laws.once c.args.head) c.in-Some.key (subst (Walks ls p c.args.head) c.in-Some.is c.ops.invariant) c.next-at.result (c.next-at.ensures ∙ ap (λ z. after c.in-Some.key (list_at ls z)) m.0))

pub list_fits-ops-preserved : goal.list_fits-ops-preserved
list_fits-ops-preserved t c =
    let ls = c.args.sibs.now.lists in
    let p = slot_fits c.args.slots.now ls c.args.headroom in
    let m = c.requires.laws.members c.args.head c.in-Some.key (c.ops.invariant.there c.in-Some.key c.in-Some.is) in
    walk_on ls p c.args.head (c.requires.laws.once c.args.head) c.in-Some.key (subst (Walks ls p c.args.head) c.in-Some.is c.ops.invariant) (sym c.op_fits.ensures ∙ c.if-not-op_fits.false) c.next-at.result (c.next-at.ensures ∙ ap (λ z. after c.in-Some.key (list_at ls z)) m.0)

pub op_fits-areas_fit-requires : goal.op_fits-areas_fit-requires
op_fits-areas_fit-requires t c =
    let live : Live c.args.slots.now c.args.key = record { live = sym c.is_live.ensures ∙ c.if-not-is_live.false } in (
      omega (arith, c.decreases, c.if-headroom-eq0.false),
      (
        c.requires.slots,
        (c.requires.laws, subst (AllHeads c.args.sibs.now.homes) (sym c.areas.ensures) (c.requires.slots c.args.key live)),
      ),
    )

pub op_fits-returns : goal.op_fits-returns
op_fits-returns t c =
    let slots = c.args.slots.now in
    let ls = c.args.sibs.now.lists in
    let pass = shapes_pass ls (slot_fits slots ls (c.args.headroom - 1)) in
    c.areas_fit.ensures ∙ ap pass c.areas.ensures
    ∙ sym (fits_row slots ls c.args.headroom c.args.key c.if-headroom-eq0.false (sym c.is_live.ensures ∙ c.if-not-is_live.false))
