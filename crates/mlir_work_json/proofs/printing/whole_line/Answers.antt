use Rattle.mlir_work_json.proofs.Printed.{feed_after}
use Rattle.mlir_work_json.proofs.printing.whole_line.Goals as goal

pub returns-then-line-bytes-clause-line : goal.returns-then-line-bytes-clause-line
returns-then-line-bytes-clause-line c =
    let is = c.cut_at.ensures.before in
    rw is (feed_after c.args.bytes.now (rw is at c.if-line-bytes.true))
