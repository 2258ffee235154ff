use Rattle.std.proofs.Common.{rules}
use Rattle.mlir_work_c.proofs.Reporting.{known_kind, other_kind}
use Rattle.mlir_work_c.proofs.bulk.report_into.Goals as goal

pub returns-then-kind-ge256 : goal.returns-then-kind-ge256
returns-then-kind-ge256 c = other_kind c.args.kind c.args.session.now c.args.into.now c.refused.result c.if-kind-ge256.true c.refused.ensures

pub returns-in-Err : goal.returns-in-Err
returns-in-Err c = known_kind c.args.kind c.args.session.now c.args.into.now c.refused-in-Err.result c.args.into.now c.if-kind-ge256.false (search rules)

pub returns : goal.returns
returns c = known_kind c.args.kind c.args.session.now c.args.into.now c.counted.result c.write_rows.new.into c.if-kind-ge256.false (search rules)
