use Rattle.std.proofs.Common.{length, ◌≡◌}
use Rattle.ir_event.specs.Modules.{module_in}
use Rattle.user_patterns_apply.specs.Mismatches.{constants_tests}
use Rattle.user_patterns_apply.proofs.verified_operands.test_constants.Given as goal

abbrev pub invariant-constants : goal.invariant-constants
invariant-constants l = constants_tests (module_in l.fn.world).tree l.rest l.fn.values ≡ constants_tests (module_in l.fn.world).tree l.fn.constants l.fn.values

abbrev pub decreases-constants : goal.decreases-constants
decreases-constants l = length l.rest
