use Rattle.std.proofs.lemmas.Nat.{and_mask}
use Rattle.dialects_int.specs.Arithmetic.{zero_extended}
use Rattle.dialects_int.proofs.arithmetic.extend.Goals as goal

pub returns-clause-value : goal.returns-clause-value
unfolding zero_extended
returns-clause-value c = rw c.mask.ensures (and_mask c.args.a c.args.to)
