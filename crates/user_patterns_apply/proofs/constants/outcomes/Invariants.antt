use Rattle.std.proofs.Common.{length, map, ◌++◌, ◌+◌, ◌≡◌}
use Rattle.ir_event.specs.Modules.{module_in}
use Rattle.patterns_base.specs.Looks.{is_verified}
use Rattle.dialects_int.specs.Folds.{known_of}
use Rattle.user_patterns_data.specs.Planning.{outcomes}
use Rattle.user_patterns_data.specs.Shapes.{pattern_model}
use Rattle.user_patterns_apply.proofs.constants.outcomes.Given as goal

abbrev pub invariant-values : goal.invariant-values
invariant-values l = record {
  left : map known_of l.env.items ++ outcomes (module_in l.fn.world).tree (is_verified (module_in l.fn.world).tree) (module_in l.fn.world).next (pattern_model l.fn.pattern) l.place l.rest l.fn.values ≡ outcomes (module_in l.fn.world).tree (is_verified (module_in l.fn.world).tree) (module_in l.fn.world).next (pattern_model l.fn.pattern) 0 l.fn.pattern.values.items l.fn.values;
  counted : l.place + length l.rest ≡ length l.fn.pattern.values.items;
}

abbrev pub decreases-values : goal.decreases-values
decreases-values l = length l.rest
