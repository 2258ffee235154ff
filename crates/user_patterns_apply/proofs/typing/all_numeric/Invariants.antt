use Rattle.std.proofs.Common.{length, ◌≡◌}
use Rattle.std.specs.List.{list_all}
use Rattle.user_patterns_data.specs.Planning.{is_numeric}
use Rattle.user_patterns_apply.specs.Types.{AreTypesOf, types_in}
use Rattle.user_patterns_apply.proofs.typing.all_numeric.Given as goal

abbrev pub invariant-types : goal.invariant-types
invariant-types l = record {
  of : AreTypesOf l.fn.ctx l.rest;
  left : list_all is_numeric (types_in l.fn.ctx l.rest) ≡ list_all is_numeric (types_in l.fn.ctx l.fn.types);
}

abbrev pub decreases-types : goal.decreases-types
decreases-types l = length l.rest
