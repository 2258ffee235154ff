use Rattle.std.proofs.Common.{◌≡◌, length}
use Rattle.user_patterns_sema.specs.Sema.{all_fit}
use Rattle.user_patterns_sema.proofs.sema_result.all_fit.Given as goal

abbrev pub invariant-literals : goal.invariant-literals
invariant-literals l = all_fit l.fn.value_types l.rest ≡ all_fit l.fn.value_types l.fn.literals

abbrev pub decreases-literals : goal.decreases-literals
decreases-literals l = length l.rest
