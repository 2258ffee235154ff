use Rattle.std.proofs.Common.{◌≡◌, length}
use Rattle.user_patterns_sema.specs.Sema.{all_determined}
use Rattle.user_patterns_sema.proofs.sema_result.all_determined.Given as goal

abbrev pub invariant-types : goal.invariant-types
invariant-types l = all_determined l.fn.value_types l.fn.olds l.rest ≡ all_determined l.fn.value_types l.fn.olds l.fn.reported

abbrev pub decreases-types : goal.decreases-types
decreases-types l = length l.rest
