use Rattle.std.proofs.Common.{length, map, ◌++◌, ◌≡◌}
use Rattle.user_patterns_data.specs.Planning.{bound_type}
use Rattle.user_patterns_apply.specs.Types.{AreTypesOf, types_in}
use Rattle.user_patterns_apply.proofs.typing.kinds_of.Given as goal

abbrev pub invariant-types : goal.invariant-types
invariant-types l = record {
  of : AreTypesOf l.fn.ctx l.rest;
  left : l.value_types.items ++ map bound_type (types_in l.fn.ctx l.rest) ≡ map bound_type (types_in l.fn.ctx l.fn.types);
}

abbrev pub decreases-types : goal.decreases-types
decreases-types l = length l.rest
