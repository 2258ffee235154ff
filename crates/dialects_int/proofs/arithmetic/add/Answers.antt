use Rattle.std.proofs.Common.{◌+◌}
use Rattle.dialects_int.specs.Arithmetic.{sum_of}
use Rattle.dialects_int.proofs.Widths.{masked}
use Rattle.dialects_int.proofs.arithmetic.add.Goals as goal

pub returns-clause-value : goal.returns-clause-value
unfolding sum_of
returns-clause-value c = rw c.mask.ensures (masked (c.args.a + c.args.b) c.args.width c.requires.high)
