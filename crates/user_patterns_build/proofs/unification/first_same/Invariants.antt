use Rattle.std.proofs.Common.{◌≡◌, ◌+◌, length}
use Rattle.user_patterns_build.specs.Unified.{first_same}
use Rattle.user_patterns_build.proofs.unification.first_same.Given as goal

abbrev pub invariant-value_types : goal.invariant-value_types
invariant-value_types l = record {
  place : l.place + first_same l.fn.kind l.rest ≡ first_same l.fn.kind l.fn.value_types;
  within : l.place + length l.rest ≡ length l.fn.value_types;
}

abbrev pub decreases-value_types : goal.decreases-value_types
decreases-value_types l = length l.rest
