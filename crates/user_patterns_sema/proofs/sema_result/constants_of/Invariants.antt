use Rattle.std.proofs.Common.{◌≡◌, ◌+◌, ◌++◌, length}
use Rattle.user_patterns_sema.specs.Sema.{constants_of}
use Rattle.user_patterns_sema_base.specs.Views.{variable_views}
use Rattle.user_patterns_sema.proofs.sema_result.constants_of.Given as goal

abbrev pub invariant-variables : goal.invariant-variables
invariant-variables l = record {
  found : l.found.items ++ constants_of l.place (variable_views l.rest) ≡ constants_of 0 (variable_views l.fn.variables);
  within : l.place + length l.rest ≡ length l.fn.variables;
}

abbrev pub decreases-variables : goal.decreases-variables
decreases-variables l = length l.rest
