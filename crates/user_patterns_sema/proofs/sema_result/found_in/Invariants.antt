use Rattle.std.proofs.Common.{◌≡◌, length}
use Rattle.user_patterns_sema.specs.Sema.{found_in}
use Rattle.user_patterns_sema.proofs.sema_result.found_in.Given as goal

abbrev pub invariant-types : goal.invariant-types
invariant-types l = found_in l.fn.value_types l.found.items l.rest ≡ found_in l.fn.value_types l.fn.found.items l.fn.slots

abbrev pub decreases-types : goal.decreases-types
decreases-types l = length l.rest
