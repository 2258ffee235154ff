use Rattle.std.proofs.Common.{◌≡◌, ◌≤◌, length, take}
use Rattle.ir_event.specs.Modules.{module_in}
use Rattle.patterns_base.specs.Looks.{is_verified}
use Rattle.user_patterns_data.specs.Matching.{placed}
use Rattle.user_patterns_apply.specs.Mismatches.{verified_tests}
use Rattle.user_patterns_apply.proofs.verified_operands.test_verified.Given as goal

abbrev pub invariant-old : goal.invariant-old
invariant-old l = record {
  few : l.left ≤ length l.fn.old;
  same : verified_tests (module_in l.fn.world).tree (is_verified (module_in l.fn.world).tree) (placed l.fn.begins (take l.left l.fn.old)) l.fn.values ≡ verified_tests (module_in l.fn.world).tree (is_verified (module_in l.fn.world).tree) (placed l.fn.begins l.fn.old) l.fn.values;
}

abbrev pub decreases-old : goal.decreases-old
decreases-old l = l.left
