use Rattle.std.proofs.Common.{length, ◌≡◌}
use Rattle.std.specs.Prelude.{is_some}
use Rattle.ir_event.specs.Modules.{module_in}
use Rattle.patterns_base.specs.Looks.{is_verified}
use Rattle.user_patterns_data.specs.Planning.{known_at}
use Rattle.user_patterns_data.specs.Shapes.{pattern_model}
use Rattle.user_patterns_apply.specs.Mismatches.{each}
use Rattle.user_patterns_apply.specs.declared.mismatch.Mismatch.TheVariants as fails
use Rattle.user_patterns_apply.proofs.constants.test_known.Given as goal

abbrev pub invariant-constants : goal.invariant-constants
invariant-constants l =
    each (λ k. is_some (known_at (module_in l.fn.world).tree (is_verified (module_in l.fn.world).tree) (module_in l.fn.world).next (pattern_model l.fn.pattern) l.fn.values k)) (λ k. fails.Unknown k) l.rest
    ≡ each (λ k. is_some (known_at (module_in l.fn.world).tree (is_verified (module_in l.fn.world).tree) (module_in l.fn.world).next (pattern_model l.fn.pattern) l.fn.values k)) (λ k. fails.Unknown k) l.fn.pattern.constants.items

abbrev pub decreases-constants : goal.decreases-constants
decreases-constants l = length l.rest
