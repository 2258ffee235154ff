use Rattle.std.proofs.Common.{◌≡◌, ◌++◌, length, map}
use Rattle.dialects_int.specs.Folds.{known_of}
use Rattle.user_patterns_registry.specs.Rows.{named_views, values_text}
use Rattle.user_patterns_registry.proofs.rows.write_values.Given as goal

abbrev pub invariant-variables : goal.invariant-variables
invariant-variables l =
    l.out.items ++ values_text (named_views l.rest) (map known_of l.values) ≡ l.fn.out.items ++ values_text (named_views l.fn.variables) (map known_of l.fn.values)

abbrev pub decreases-variables : goal.decreases-variables
decreases-variables l = length l.rest
