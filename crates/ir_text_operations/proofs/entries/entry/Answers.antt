use Rattle.ir_types.proofs.Growth.{grows_trans}
use Rattle.ir_text_operations.proofs.entries.entry.Goals as goal

pub returns-in-Err-value-clause-grows : goal.returns-in-Err-value-clause-grows
returns-in-Err-value-clause-grows c = grows_trans c.args.ctx.now c.key.new.ctx c.value.new.ctx c.in-Ok.ensures.grows c.in-Err-value.ensures.grows

pub returns-clause-grows : goal.returns-clause-grows
returns-clause-grows c = grows_trans c.args.ctx.now c.key.new.ctx c.value.new.ctx c.in-Ok.ensures.grows c.in-Ok-value.ensures.grows
