use Rattle.ir_text.proofs.Meanings.{types_are}
use Rattle.ir_text.proofs.operations.write_result_types.Goals as goal

pub returns : goal.returns
returns c = rw (types_are c.args.ctx.now c.args.ids.now) c.write_outputs.ensures
