use Rattle.std.proofs.Common.{rules}
use Rattle.listeners_support.proofs.Words.{none_from, first_is}
use Rattle.listeners_support.proofs.bits.first_in.Goals as goal

pub returns-then-high-eq0 : goal.returns-then-high-eq0
returns-then-high-eq0 c = none_from c.args.word c.args.from (search rules)

pub returns-else-high-eq0 : goal.returns-else-high-eq0
returns-else-high-eq0 c = first_is c.args.word c.args.from (search rules) (search rules) (search rules)
