use Rattle.std.specs.Prelude.{length}
use Rattle.user_patterns_instructions.proofs.types.+is_repeated.Given as goal

abbrev pub decreases-is_repeated : goal.decreases-is_repeated
decreases-is_repeated l = length l.value_types.now
