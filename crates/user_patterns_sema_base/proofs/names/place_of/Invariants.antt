use Rattle.std.proofs.Common.{◌≡◌, ◌+◌, length}
use Rattle.user_patterns_sema_base.specs.Views.{variable_views}
use Rattle.user_patterns_sema_base.specs.Names.{place_from, place_of}
use Rattle.user_patterns_sema_base.proofs.names.place_of.Given as goal

abbrev pub invariant-variables : goal.invariant-variables
invariant-variables l = record {
  place : place_from l.place l.fn.is_value l.fn.name (variable_views l.rest) ≡ place_of l.fn.is_value l.fn.name (variable_views l.fn.variables);
  within : l.place + length l.rest ≡ length l.fn.variables;
}

abbrev pub decreases-variables : goal.decreases-variables
decreases-variables l = length l.rest
