use Rattle.std.proofs.Common.{◌≡◌, ◌++◌, length, map}
use Rattle.user_patterns_data.specs.Fitting.{number_step}
use Rattle.user_patterns_data.proofs.sides.number_steps.Given as goal

abbrev pub invariant-numbers : goal.invariant-numbers
invariant-numbers l = l.steps.items ++ map (number_step l.fn.value_types) l.rest ≡ l.fn.steps.items ++ map (number_step l.fn.value_types) l.fn.numbers

abbrev pub decreases-numbers : goal.decreases-numbers
decreases-numbers l = length l.rest
