use Rattle.std.proofs.Common.{◌≡◌, ◌++◌, length, map}
use Rattle.user_patterns_data.specs.Fitting.{pattern_op_step}
use Rattle.user_patterns_data.proofs.sides.old_steps.Given as goal

abbrev pub invariant-old : goal.invariant-old
invariant-old l = l.steps.items ++ map (pattern_op_step l.fn.value_types) l.rest ≡ map (pattern_op_step l.fn.value_types) l.fn.old

abbrev pub decreases-old : goal.decreases-old
decreases-old l = length l.rest
