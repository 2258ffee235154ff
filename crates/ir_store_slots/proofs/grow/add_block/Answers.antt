use Rattle.std.proofs.Common.{refl, sym, ap, ◌∙◌, length}
use Rattle.ir_store_slots.specs.Grows.{parts_of, row_spare}
use Rattle.ir_store_slots.proofs.Runs.{run_wide}
use Rattle.ir_store_slots.proofs.Blocks.{block_kept, block_wide, block_new}
use Rattle.ir_store_slots.proofs.grow.add_block.Goals as goal

pub returns-in-Err-clause-wider : goal.returns-in-Err-clause-wider
returns-in-Err-clause-wider c = let p = parts_of c.args.slots.now c.args.sibs.now c.args.uses.now c.args.cells.now.items in run_wide p c.requires _ c.row_count-head.result c.in-Err.ensures.0 _ _ c.in-Err.ensures.1

pub returns-in-Ok-add_head-clause-wider : goal.returns-in-Ok-add_head-clause-wider
returns-in-Ok-add_head-clause-wider c =
    let p = parts_of c.args.slots.now c.args.sibs.now c.args.uses.now c.args.cells.now.items in
    block_wide p c.requires c.row_count-head.result c.row_count-head.ensures c.type_count-count.result _ _ c.in-Ok.ensures.1 c.in-Ok.values c.args.owner c.args.number c.in-Ok.ensures.0 (row_spare c.args.owner c.args.number c.in-Ok.values) refl _ _ c.in-Ok-add_head.ensures

pub returns-in-Ok-add_head-clause-area : goal.returns-in-Ok-add_head-clause-area
returns-in-Ok-add_head-clause-area c =
    let p = parts_of c.args.slots.now c.args.sibs.now c.args.uses.now c.args.cells.now.items in (
      refl,
      block_new p c.requires c.row_count-head.result c.row_count-head.ensures c.type_count-count.result _ _ c.in-Ok.ensures.1 c.in-Ok.values c.args.owner c.args.number c.in-Ok.ensures.0 (row_spare c.args.owner c.args.number c.in-Ok.values) refl _ _ c.in-Ok-add_head.ensures c.args.args.items (ap length (sym c.deref.ensures.value) ∙ sym c.type_count-count.ensures),
    )

pub returns-in-Err-add_head-clause-wider : goal.returns-in-Err-add_head-clause-wider
returns-in-Err-add_head-clause-wider c =
    let p = parts_of c.args.slots.now c.args.sibs.now c.args.uses.now c.args.cells.now.items in
    block_kept p c.requires c.row_count-head.result c.row_count-head.ensures c.type_count-count.result _ _ c.in-Ok.ensures.1 _ _ c.in-Err-add_head.ensures
