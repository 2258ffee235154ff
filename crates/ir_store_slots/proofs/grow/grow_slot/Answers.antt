use Rattle.std.proofs.Common.{refl, sym, ap, ◌∙◌, length, map}
use Rattle.std.proofs.lemmas.List.{length-map}
use Rattle.ir_store_arena.specs.trees.View.{region_view}
use Rattle.ir_store_arena.specs.trees.Tree.{op, head, regions_of}
use Rattle.ir_store_slots.specs.Rows.{shape_of}
use Rattle.ir_store_slots.specs.Grows.{parts_of, row_spare}
use Rattle.ir_store_slots.specs.Emptied.{emptied_region}
use Rattle.ir_store_slots.proofs.Grown.{second_wide, third_wide, fourth_wide, is_grown}
use Rattle.ir_store_slots.proofs.grow.grow_slot.Goals as goal

pub returns-in-Err-add_areas-clause-wider : goal.returns-in-Err-add_areas-clause-wider
returns-in-Err-add_areas-clause-wider c =
    let p = parts_of c.args.slots.now c.args.sibs.now c.args.uses.now c.args.cells.now.items in
    let q = parts_of c.add_areas.new.slots c.add_areas.new.sibs c.add_areas.new.uses c.add_areas.new.cells.items in
    second_wide p c.requires c.row_count-slot.result c.row_count-slot.ensures (row_spare 0 0 0) refl _ _ c.in-Ok.ensures q c.in-Err-add_areas.ensures.wider

pub returns-in-Err-add_run-clause-wider : goal.returns-in-Err-add_run-clause-wider
returns-in-Err-add_run-clause-wider c =
    let p = parts_of c.args.slots.now c.args.sibs.now c.args.uses.now c.args.cells.now.items in
    let q = parts_of c.add_areas.new.slots c.add_areas.new.sibs c.add_areas.new.uses c.add_areas.new.cells.items in
    third_wide p c.requires c.row_count-slot.result c.row_count-slot.ensures (row_spare 0 0 0) refl _ _ c.in-Ok.ensures q c.in-Ok-add_areas.ensures.wider c.in-Err-add_run.ensures.0 _ _ c.in-Err-add_run.ensures.1

pub add_run-requires-2-clause-even : goal.add_run-requires-2-clause-even
add_run-requires-2-clause-even c =
    let p = parts_of c.args.slots.now c.args.sibs.now c.args.uses.now c.args.cells.now.items in
    let q = parts_of c.add_areas.new.slots c.add_areas.new.sibs c.add_areas.new.uses c.add_areas.new.cells.items in
    let w = third_wide p c.requires c.row_count-slot.result c.row_count-slot.ensures (row_spare 0 0 0) refl _ _ c.in-Ok.ensures q c.in-Ok-add_areas.ensures.wider c.type_count.result _ _ c.in-Ok-add_run.ensures.1 in
    sym w.even.counted ∙ length-map c.add_run.new.cells.items _

pub returns-in-Err-add_run-2-clause-wider : goal.returns-in-Err-add_run-2-clause-wider
returns-in-Err-add_run-2-clause-wider c =
    let p = parts_of c.args.slots.now c.args.sibs.now c.args.uses.now c.args.cells.now.items in
    let q = parts_of c.add_areas.new.slots c.add_areas.new.sibs c.add_areas.new.uses c.add_areas.new.cells.items in
    fourth_wide p c.requires c.row_count-slot.result c.row_count-slot.ensures (row_spare 0 0 0) refl _ _ c.in-Ok.ensures q c.in-Ok-add_areas.ensures.wider c.type_count.result _ _ c.in-Ok-add_run.ensures.1
    c.in-Err-add_run-2.ensures.0 _ _ c.in-Err-add_run-2.ensures.1

pub returns-in-Ok-new-clause-wider : goal.returns-in-Ok-new-clause-wider
returns-in-Ok-new-clause-wider c =
    let p = parts_of c.args.slots.now c.args.sibs.now c.args.uses.now c.args.cells.now.items in
    let q = parts_of c.add_areas.new.slots c.add_areas.new.sibs c.add_areas.new.uses c.add_areas.new.cells.items in
    fourth_wide p c.requires c.row_count-slot.result c.row_count-slot.ensures (row_spare 0 0 0) refl _ _ c.in-Ok.ensures q c.in-Ok-add_areas.ensures.wider c.type_count.result _ _ c.in-Ok-add_run.ensures.1
    c.operand_count.result _ _ c.in-Ok-add_run-2.ensures.1

pub returns-in-Ok-new-clause-grown : goal.returns-in-Ok-new-clause-grown
returns-in-Ok-new-clause-grown c =
    let p = parts_of c.args.slots.now c.args.sibs.now c.args.uses.now c.args.cells.now.items in
    let q = parts_of c.add_areas.new.slots c.add_areas.new.sibs c.add_areas.new.uses c.add_areas.new.cells.items in
    is_grown p c.requires c.row_count-slot.result c.row_count-slot.ensures (row_spare 0 0 0) refl _ _ c.in-Ok.ensures q c.in-Ok-add_areas.ensures.wider c.type_count.result _ _ c.in-Ok-add_run.ensures.1
    c.operand_count.result _ _ c.in-Ok-add_run-2.ensures.1 c.args.op c.args.header.now (map region_view c.header.inside.regions.items)
    ((λ i. op (head (sym c.header.view_is i)) (regions_of (map region_view c.header.inside.regions.items))) ∙ c.header.view_is)
    (map shape_of c.in-Ok-add_areas.areas.items) (c.in-Ok-add_areas.ensures.areas.0 ∙ ap (λ z. map emptied_region (map region_view z)) c.deref.ensures.value) c.in-Ok-add_areas.ensures.areas.1
    c.in-Ok-add_run.values c.in-Ok-add_run-2.base c.in-Ok-add_run.ensures.0 c.in-Ok-add_run-2.ensures.0
    (c.type_count.ensures ∙ ap length c.deref-2.ensures.value ∙ ap (λ z. length (head z).results) c.header.view_is)
    (c.operand_count.ensures ∙ ap length c.deref-3.ensures.value ∙ ap (λ z. length (head z).operands) c.header.view_is)
    _ c.in-Ok-new.ensures

pub returns-in-Err-new-clause-wider : goal.returns-in-Err-new-clause-wider
returns-in-Err-new-clause-wider c =
    let p = parts_of c.args.slots.now c.args.sibs.now c.args.uses.now c.args.cells.now.items in
    let q = parts_of c.add_areas.new.slots c.add_areas.new.sibs c.add_areas.new.uses c.add_areas.new.cells.items in
    fourth_wide p c.requires c.row_count-slot.result c.row_count-slot.ensures (row_spare 0 0 0) refl _ _ c.in-Ok.ensures q c.in-Ok-add_areas.ensures.wider c.type_count.result _ _ c.in-Ok-add_run.ensures.1
    c.operand_count.result _ _ c.in-Ok-add_run-2.ensures.1
