use Rattle.std.proofs.lemmas.Nat.{xor_lt}
use Rattle.dialects_int.proofs.arithmetic.exclusive_or.Goals as goal

pub returns-clause-below : goal.returns-clause-below
returns-clause-below c = xor_lt c.args.width c.args.a c.args.b c.requires.left c.requires.right
