use Rattle.std.specs.Prelude.{length}
use Rattle.user_patterns_instructions.proofs.types.+push_widths.Given as goal

abbrev pub decreases-push_widths : goal.decreases-push_widths
decreases-push_widths l = length l.value_types.now
