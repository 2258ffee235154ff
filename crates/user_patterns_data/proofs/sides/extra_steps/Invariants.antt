use Rattle.std.proofs.Common.{◌≡◌, ◌++◌, length, map}
use Rattle.user_patterns_data.specs.Fitting.{extra_step}
use Rattle.user_patterns_data.proofs.sides.extra_steps.Given as goal

abbrev pub invariant-extra : goal.invariant-extra
invariant-extra l = l.steps.items ++ map (extra_step l.fn.value_types) l.rest ≡ map (extra_step l.fn.value_types) l.fn.extra

abbrev pub decreases-extra : goal.decreases-extra
decreases-extra l = length l.rest
