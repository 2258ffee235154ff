use Rattle.std.proofs.Common.{refl, sym, ap, ◌∙◌, ◌<◌, length, map, arith}
use Rattle.ir_store_slots.specs.trees.View.{region_view}
use Rattle.ir_store_slots.specs.trees.Tree.{op, head, regions_of}
use Rattle.ir_store_slots.specs.Rows.{row_at, shape_of}
use Rattle.ir_store_slots.specs.Grows.{parts_of, row_held, AreBlocks, AreEmptied}
use Rattle.ir_store_slots.specs.Emptied.{emptied_region}
use Rattle.ir_store_reads.proofs.Fitting.{fit_grown, some_reported}
use Rattle.ir_store_reads.proofs.spare.fit_row.Goals as goal

pub returns-in-Ok : goal.returns-in-Ok
returns-in-Ok c =
    let q = parts_of c.args.slots.now c.args.sibs.now c.args.uses.now c.args.cells.now.items in
    let slots = c.args.slots.now in
    let inside : c.args.slot < length slots = omega (arith, c.if-slot-len.false, c.len.ensures) in
    let reported = some_reported (λ a. AreEmptied (map shape_of a.items) (map region_view c.deref.result.now) × AreBlocks q 0 c.args.slot (map shape_of a.items)) c.in-Ok-Some.field-0 c.in-Ok-Some.areas c.in-Ok-Some.field-0-is c.in-Ok-Some.ensures in
    fit_grown q c.args.slot c.args.op c.args.header.now (map region_view c.header.inside.regions.items) (map shape_of c.in-Ok-Some.areas.items) (row_at slots c.args.slot) c.in-Ok.draft inside refl
    ((λ i. op (head (sym c.header.view_is i)) (regions_of (map region_view c.header.inside.regions.items))) ∙ c.header.view_is)
    (c.row_fits.ensures c.if-not-row_fits.false)
    (reported.0 ∙ ap (λ z. map emptied_region (map region_view z)) c.deref.ensures.value) reported.1
    (c.in-Ok.ensures ∙ (λ i. row_held c.args.op (head c.args.header.now) (map shape_of c.in-Ok-Some.areas.items) (c.uses.ensures i) (c.values.ensures i)))
