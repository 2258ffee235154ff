use Rattle.std.proofs.Common.{◌≡◌, length}
use Rattle.user_patterns_sema.specs.Sema.{found_in, determined_slots}
use Rattle.user_patterns_sema.proofs.sema_result.found_in_determined.Given as goal

abbrev pub invariant-types : goal.invariant-types
invariant-types l = found_in l.fn.value_types l.found.items (determined_slots l.rest) ≡ found_in l.fn.value_types l.fn.found.items (determined_slots l.fn.reported)

abbrev pub decreases-types : goal.decreases-types
decreases-types l = length l.rest
