use Rattle.std.proofs.Common.{◌≡◌, ◌++◌, length, map}
use Rattle.user_patterns_sema.specs.Sema.{numbered}
use Rattle.user_patterns_sema.proofs.sema_result.all_numbered.Given as goal

abbrev pub invariant-value_types : goal.invariant-value_types
invariant-value_types l = l.made.items ++ map (numbered l.fn.found) l.rest ≡ map (numbered l.fn.found) l.fn.value_types

abbrev pub decreases-value_types : goal.decreases-value_types
decreases-value_types l = length l.rest
