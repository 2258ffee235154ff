use Rattle.std.proofs.Common.{◌≡◌, ◌++◌, length}
use Rattle.user_patterns_sema_base.specs.Views.{variable_views}
use Rattle.user_patterns_registry.specs.Rows.{named_views}
use Rattle.user_patterns_registry.proofs.define.all_owned.Given as goal

abbrev pub invariant-variables : goal.invariant-variables
invariant-variables l = named_views l.found.items ++ variable_views l.rest ≡ variable_views l.fn.variables

abbrev pub decreases-variables : goal.decreases-variables
decreases-variables l = length l.rest
