use Rattle.std.proofs.Common.{arith}
use Rattle.ir_text.specs.View.{printed_in, ops_in}
use Rattle.ir_text.proofs.Wholes.{no_arguments}
use Rattle.ir_text.proofs.operations.write_label.Goals as goal

pub returns-in-empty : goal.returns-in-empty
returns-in-empty c =
    rw (no_arguments c.args.ctx.now c.args.margin.now c.args.op c.args.region c.args.args.now (ops_in c.args.ctx.now c.args.ops.now) (printed_in c.args.ctx.now c.args.out.now) (omega arith)) (c.write_bare_label.ensures c.args.ctx.now)
