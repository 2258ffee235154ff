use Rattle.std.proofs.Common.{arith}
use Rattle.user_patterns_widths.proofs.Wide.{has_two}
use Rattle.user_patterns_widths.proofs.edges.edge.Goals as goal

pub overflow_sub-result-in-6 : goal.overflow_sub-result-in-6
overflow_sub-result-in-6 c = omega (arith, c.mask-in-6.ensures, has_two c.args.width c.requires.low)
