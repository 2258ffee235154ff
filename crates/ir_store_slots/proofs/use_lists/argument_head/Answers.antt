use Rattle.std.proofs.Common.{◌∙◌, ◌+◌, ◌<◌, ap, arith, length, Some, None}
use Rattle.std.specs.Prelude.{if◌then◌else◌}
use Rattle.ir_store_slots.specs.Rows.{shape_of, row_at}
use Rattle.ir_store_slots.specs.Index.{argument_head}
use Rattle.ir_store_slots.proofs.Idle.{is_below}
use Rattle.ir_store_slots.proofs.use_lists.argument_head.Goals as goal

pub overflow_add-result : goal.overflow_add-result
overflow_add-result c =
    let l : c.args.place < length c.in-Block.args.items = omega (arith, c.if-place-len.true, c.len.ensures) in
    let base = (row_at c.args.slots.now c.in-Block.head).values in
    let n = c.requires (base + c.args.place)
    (ap (λ z. argument_head c.args.slots.now c.args.place (shape_of z)) c.in-Block.is
    ∙ ap (λ b. if b then Some (base + c.args.place) else None) (is_below c.args.place (length c.in-Block.args.items) l)) in
    omega (arith, n, c.first_value-base.ensures)
