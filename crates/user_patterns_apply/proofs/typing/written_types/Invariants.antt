use Rattle.std.proofs.Common.{length, map, ◌++◌, ◌≡◌}
use Rattle.user_patterns_apply.specs.Types.{written_of}
use Rattle.user_patterns_apply.proofs.typing.written_types.Given as goal

abbrev pub invariant-value_types : goal.invariant-value_types
invariant-value_types l = l.types.items ++ map written_of l.rest ≡ map written_of l.fn.value_types

abbrev pub decreases-value_types : goal.decreases-value_types
decreases-value_types l = length l.rest
