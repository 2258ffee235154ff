use Rattle.std.specs.Prelude.{length}
use Rattle.user_patterns_instructions.proofs.types.+push_narrower.Given as goal

abbrev pub decreases-push_narrower : goal.decreases-push_narrower
decreases-push_narrower l = length l.type_constraints.now
