use Rattle.std.proofs.Common.{arith}
use Rattle.mlir_work_transforms.proofs.Made.{all_made, one_made}
use Rattle.mlir_work_transforms.proofs.trace_lines.write_made.Goals as goal

pub made-preserved : goal.made-preserved
made-preserved c = one_made c.made.first c.made.number c.args.until c.made.text.items _ _ c.made-test.true c.in_ok-write_one.ensures c.made.invariant

pub returns : goal.returns
returns c = let past = c.made-test.false in all_made c.made.first c.made.number c.args.until c.made.text.items _ (omega (arith, past)) c.made.invariant
