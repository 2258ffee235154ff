use Rattle.std.proofs.Common.{arith}
use Rattle.ir_text.proofs.Wholes.{whole_op, whole_region}
use Rattle.ir_text.proofs.Walks.{next_region, arguments_of, inside_of, next_op, known_of}
use Rattle.ir_text.proofs.operations.+operations.Goals as goal
use Rattle.ir_tree.proofs.Steps.{next_left}

pub print_op-regions-preserved : goal.print_op-regions-preserved
print_op-regions-preserved t c =
    let next = next_left c.op.inside.regions.items c.regions.place c.region-item.result (rw c.deref-region-items.ensures.value at c.regions-test.true) (rw c.deref-region-items.ensures.value at c.region-item.is) in
    record {
      text = next_region c.args.ctx.now c.args.margin.now c.op.inside.id c.regions.place c.region-item.result _ _ _ _ _ _ next (c.in_ok-write_comma.ensures c.args.ctx.now) c.in_ok-write_region.ensures c.regions.invariant.text;
      arguments = (arguments_of _ c.region-item.result _ _ next c.regions.invariant.arguments).1;
      inside = (inside_of _ c.region-item.result _ _ next c.regions.invariant.inside).1;
    }

pub write_region-ops-preserved : goal.write_region-ops-preserved
write_region-ops-preserved t c =
    let next = next_left c.deref-op-items.result.now c.ops.op-index c.op-item.result c.ops-test.true c.op-item.is in
    record {
      text = next_op c.args.ctx.now c.in_ok-blanks-in-Block.blanks.items c.op-item.result _ _ _ _ _ next (rw c.deref-in-ops.ensures.value at c.in_ok-print_op-in-Block.ensures) c.ops.invariant.text;
      inside = (known_of _ c.op-item.result _ _ next c.ops.invariant.inside).1;
    }

pub print_op-returns : goal.print_op-returns
print_op-returns t c =
    let opens = rw c.deref.ensures.value at (c.in_ok-write_opening.ensures c.args.ctx.now) in
    let closes = rw c.deref-2.ensures.value at (c.in_ok-write_closing.ensures c.args.ctx.now) in
    whole_op c.args.ctx.now c.args.margin.now c.op.inside c.args.op.now c.regions.place _ _ _ _ _ _ c.op.view_is (omega arith) c.in_ok-write_head.ensures opens c.regions.invariant.text closes c.in_ok-write_tail.ensures

pub write_region-returns-in_ok-write-in-Block-3 : goal.write_region-returns-in_ok-write-in-Block-3
write_region-returns-in_ok-write-in-Block-3 t c =
    let label = rw (c.deref.ensures.value, c.deref-in-Block.ensures.value) at c.in_ok-write_label-in-Block.ensures in
    rw c.in-Block.is (whole_region c.args.ctx.now c.args.margin.now c.in_ok-blanks-in-Block.blanks.items c.args.op c.args.place c.in-Block.args.items c.in-Block.ops.items c.ops.op-index _ _ _ _ _ _ c.in_ok-blanks-in-Block.ensures (omega arith) (c.in_ok-write-in-Block.ensures c.args.ctx.now) label (rw c.deref-op-items.ensures.value at c.ops.invariant.text) (c.in_ok-write-in-Block-2.ensures c.args.ctx.now) (c.in_ok-write-in-Block-3.ensures c.args.ctx.now))
