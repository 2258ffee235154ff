use Rattle.ir_store_slots.specs.Rows.{row_at}
use Rattle.std.proofs.Common.{◌≡◌, ◌+◌, ◌<◌, ap, arith, length, Some, None}
use Rattle.std.specs.Prelude.{if◌then◌else◌}
use Rattle.ir_store_slots.proofs.Idle.{is_below}
use Rattle.ir_store_slots.proofs.use_lists.result_head.Goals as goal

pub overflow_add-result : goal.overflow_add-result
overflow_add-result c =
    let many : length c.results-count.result.now ≡ length (row_at c.args.slots.now c.args.key).head.results = ap length c.results-count.ensures in
    let l : c.args.place < length (row_at c.args.slots.now c.args.key).head.results = omega (arith, many, c.if-place-count.true) in
    let n = c.requires ((row_at c.args.slots.now c.args.key).values + c.args.place) (ap (λ b. if b then Some ((row_at c.args.slots.now c.args.key).values + c.args.place) else None) (is_below c.args.place (length (row_at c.args.slots.now c.args.key).head.results) l)) in
    omega (arith, n, c.values.ensures)
