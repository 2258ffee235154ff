use Rattle.ir_types.proofs.Widths.{ones_at}
use Rattle.ir_types.proofs.readings.mask.Goals as goal

pub returns : goal.returns
returns c = ones_at c.args.width c.requires.high
