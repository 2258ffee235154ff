use Rattle.std.specs.Prelude.{length}
use Rattle.user_patterns_registry.proofs.rows.+write_inputs.Given as goal

abbrev pub decreases-write_inputs : goal.decreases-write_inputs
decreases-write_inputs l = length l.variables.now
