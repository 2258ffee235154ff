use Rattle.std.proofs.Common.{arith}
use Rattle.user_patterns_widths.proofs.Wide.{two_stays}
use Rattle.user_patterns_widths.proofs.edges.two.Goals as goal

pub returns-else-width-eq1 : goal.returns-else-width-eq1
returns-else-width-eq1 c = two_stays c.args.width (omega arith)
