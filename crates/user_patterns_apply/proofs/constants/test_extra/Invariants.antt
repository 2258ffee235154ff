use Rattle.std.proofs.Common.{length, map, ◌+◌, ◌≡◌}
use Rattle.ir_event.specs.Modules.{module_in}
use Rattle.patterns_base.specs.Looks.{is_verified}
use Rattle.dialects_int.specs.Folds.{known_of}
use Rattle.user_patterns_data.specs.Shapes.{pattern_model}
use Rattle.user_patterns_apply.specs.Mismatches.{extra_tests}
use Rattle.user_patterns_apply.proofs.constants.test_extra.Given as goal

abbrev pub invariant-extra : goal.invariant-extra
invariant-extra l = record {
  left : extra_tests (module_in l.fn.world).tree (is_verified (module_in l.fn.world).tree) (module_in l.fn.world).next (pattern_model l.fn.pattern) l.place l.rest l.fn.values (map known_of l.fn.env) ≡ extra_tests (module_in l.fn.world).tree (is_verified (module_in l.fn.world).tree) (module_in l.fn.world).next (pattern_model l.fn.pattern) (length l.fn.pattern.values.items) l.fn.pattern.extra.items l.fn.values (map known_of l.fn.env);
  counted : l.place + length l.rest ≡ length l.fn.pattern.values.items + length l.fn.pattern.extra.items;
}

abbrev pub decreases-extra : goal.decreases-extra
decreases-extra l = length l.rest
