use Rattle.std.proofs.Common.{◌≡◌, length}
use Rattle.user_patterns_sema.specs.Sema.{all_cast}
use Rattle.user_patterns_sema.proofs.sema_result.all_cast.Given as goal

abbrev pub invariant-casts : goal.invariant-casts
invariant-casts l = all_cast l.fn.value_types l.type_constraints.items l.rest ≡ all_cast l.fn.value_types l.fn.type_constraints.items l.fn.casts

abbrev pub decreases-casts : goal.decreases-casts
decreases-casts l = length l.rest
