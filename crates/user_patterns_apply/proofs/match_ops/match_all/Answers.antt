use Rattle.std.proofs.Common.{ap, arith}
use Rattle.std.specs.Prelude.{is_none}
use Rattle.ir_event.specs.Modules.{module_in}
use Rattle.user_patterns_apply.proofs.Backwards.{ops_tests_go, ops_tests_stop, pattern_ops_go, pattern_ops_stop}
use Rattle.user_patterns_apply.proofs.match_ops.match_all.Goals as goal

pub returns-in-Some-clause-stands : goal.returns-in-Some-clause-stands
returns-in-Some-clause-stands c =
    pattern_ops_stop (module_in c.args.world.now).tree c.args.begins c.args.old.now c.old.left c.old-test.true c.old.invariant.few c.old.values _ c.old.invariant.same _ c.match_pattern_op.new.values (is_none c.match_pattern_op.result) c.match_pattern_op.ensures.stands (ap is_none c.in-Some.is)

pub returns-in-Some-clause-tests : goal.returns-in-Some-clause-tests
returns-in-Some-clause-tests c =
    ops_tests_stop (module_in c.args.world.now).tree c.args.begins c.args.old.now c.old.left c.old-test.true c.old.invariant.few c.old.values _ c.old.invariant.tests _ c.match_pattern_op.new.values c.match_pattern_op.result c.match_pattern_op.ensures.tests c.in-Some.mismatch c.in-Some.is

pub old-preserved : goal.old-preserved
old-preserved c = record {
  few = omega (arith, c.old.invariant.few);
  same = pattern_ops_go (module_in c.args.world.now).tree c.args.begins c.args.old.now c.old.left c.old-test.true c.old.invariant.few c.old.values _ c.old.invariant.same _ c.match_pattern_op.new.values (is_none c.match_pattern_op.result) c.match_pattern_op.ensures.stands (ap is_none c.in_default.is);
  tests = ops_tests_go (module_in c.args.world.now).tree c.args.begins c.args.old.now c.old.left c.old-test.true c.old.invariant.few c.old.values _ c.old.invariant.tests _ c.match_pattern_op.new.values c.match_pattern_op.result c.match_pattern_op.ensures.tests c.match_pattern_op.ensures.stands c.in_default.is;
}
