use Rattle.std.proofs.lemmas.Nat.{or_lt}
use Rattle.dialects_int.proofs.arithmetic.or.Goals as goal

pub returns-clause-below : goal.returns-clause-below
returns-clause-below c = or_lt c.args.width c.args.a c.args.b c.requires.left c.requires.right
