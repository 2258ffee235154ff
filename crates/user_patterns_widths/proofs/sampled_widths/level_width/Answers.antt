use Rattle.std.proofs.Common.{arith}
use Rattle.user_patterns_widths.proofs.Wide.{far_level}
use Rattle.user_patterns_widths.proofs.sampled_widths.level_width.Goals as goal

pub returns-then-level-ge32 : goal.returns-then-level-ge32
returns-then-level-ge32 c = far_level c.args.width c.args.level (omega arith) c.if-level-ge32.true
