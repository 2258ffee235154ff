use Rattle.std.proofs.Common.{◌≡◌, ◌≤◌, length, take}
use Rattle.ir_event.specs.Modules.{module_in}
use Rattle.user_patterns_data.specs.Matching.{ops_match, placed}
use Rattle.user_patterns_apply.specs.Mismatches.{ops_tests}
use Rattle.user_patterns_apply.specs.Matched.{any}
use Rattle.user_patterns_apply.proofs.match_ops.match_all.Given as goal

abbrev pub invariant-old : goal.invariant-old
invariant-old l = record {
  few : l.left ≤ length l.fn.old;
  same : ops_match (module_in l.fn.world).tree any (placed l.fn.begins (take l.left l.fn.old)) l.values ≡ ops_match (module_in l.fn.world).tree any (placed l.fn.begins l.fn.old) l.fn.values;
  tests : ops_tests (module_in l.fn.world).tree (placed l.fn.begins (take l.left l.fn.old)) l.values ≡ ops_tests (module_in l.fn.world).tree (placed l.fn.begins l.fn.old) l.fn.values;
}

abbrev pub decreases-old : goal.decreases-old
decreases-old l = l.left
