use Rattle.std.proofs.Common.{◌≡◌, length, map}
use Rattle.dialects_int.specs.Folds.{known_of}
use Rattle.user_patterns_check.specs.Checks.{bound}
use Rattle.user_patterns_check.proofs.steps.bind.Given as goal

abbrev pub invariant-value_types : goal.invariant-value_types
invariant-value_types l = bound l.value_types l.values (map known_of l.env.items) ≡ bound l.fn.value_types l.fn.values (map known_of l.fn.env.items)

abbrev pub decreases-value_types : goal.decreases-value_types
decreases-value_types l = length l.value_types
