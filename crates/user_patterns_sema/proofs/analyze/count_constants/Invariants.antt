use Rattle.std.proofs.Common.{◌≡◌, ◌+◌, ◌-◌, ◌≤◌, ◌++◌, [], eqb, length, map}
use Rattle.user_patterns_sema.specs.Sema.{count_constants}
use Rattle.user_patterns_sema_base.specs.Views.{variable_views}
use Rattle.user_patterns_sema.proofs.analyze.count_constants.Given as goal

abbrev pub invariant-variables : goal.invariant-variables
invariant-variables l = record {
  count : l.count + count_constants (variable_views l.rest) ≡ count_constants (variable_views l.fn.variables);
  within : l.count + length l.rest ≤ length l.fn.variables;
}

abbrev pub decreases-variables : goal.decreases-variables
decreases-variables l = length l.rest
