use Rattle.mlir_work_session_base.proofs.Lines.{emptied, filled, lines_done, lines_step}
use Rattle.mlir_work_session_base.proofs.ids.write_lines.Goals as goal

pub loop-rest-preserved : goal.loop-rest-preserved
loop-rest-preserved c =
    lines_step c.loop-rest.rest.now c.split_line.result.0.now c.split_line.result.1.now c.loop-rest.left.now c.trailing_first-left.result.now c.loop-rest.out.items c.write_line.new.out.items _
    (c.split_line.ensures.lines (filled c.loop-rest.rest.now _ c.is_empty.ensures c.loop-rest-test.true)) c.in_ok-write_line.ensures c.trailing_first-left.ensures c.loop-rest.invariant

pub returns : goal.returns
returns c = lines_done c.loop-rest.rest.now c.loop-rest.left.now c.loop-rest.out.items _ (emptied c.loop-rest.rest.now _ c.is_empty.ensures c.loop-rest-test.false) c.loop-rest.invariant
