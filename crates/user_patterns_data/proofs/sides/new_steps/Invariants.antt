use Rattle.std.proofs.Common.{◌≡◌, ◌++◌, length, map}
use Rattle.user_patterns_data.specs.Fitting.{new_step}
use Rattle.user_patterns_data.proofs.sides.new_steps.Given as goal

abbrev pub invariant-new : goal.invariant-new
invariant-new l = l.steps.items ++ map (new_step l.fn.value_types) l.rest ≡ map (new_step l.fn.value_types) l.fn.new

abbrev pub decreases-new : goal.decreases-new
decreases-new l = length l.rest
