use Rattle.std.proofs.Common.{ℕ, ap, ◌∙◌, arith}
use Rattle.ir_event.specs.Modules.{module_in}
use Rattle.patterns_base.specs.Looks.{is_verified}
use Rattle.user_patterns_data.specs.Matching.{binding_at}
use Rattle.user_patterns_data.specs.declared.pattern.PatternOp.{PatternOp}
use Rattle.user_patterns_apply.specs.Matched.{is_verified_value}
use Rattle.user_patterns_apply.specs.declared.mismatch.Mismatch.TheVariants as fails
use Rattle.user_patterns_apply.proofs.Backwards.{each_goes, each_stops, some_pattern_op}
use Rattle.user_patterns_apply.proofs.verified_operands.test_verified.Goals as goal

pub returns-then-not-branch : goal.returns-then-not-branch
returns-then-not-branch c =
    let t = (module_in c.args.world.now).tree in
    each_stops t c.args.begins c.args.old.now c.old.left c.old-test.true c.old.invariant.few (λ (p : ℕ × PatternOp). is_verified_value t (is_verified t) (binding_at p.0 c.args.values.now)) (λ p. fails.NotVerified p.0) _ some_pattern_op c.old.invariant.same _
    (c.in_ok-is_verified_value.ensures ∙ ap (is_verified_value t (is_verified t)) c.binding_at-value.ensures) c.if-not-branch.true

pub old-preserved : goal.old-preserved
old-preserved c =
    let t = (module_in c.args.world.now).tree in record {
      few = omega (arith, c.old.invariant.few);
      same = each_goes t c.args.begins c.args.old.now c.old.left c.old-test.true c.old.invariant.few (λ (p : ℕ × PatternOp). is_verified_value t (is_verified t) (binding_at p.0 c.args.values.now)) (λ p. fails.NotVerified p.0) _ some_pattern_op c.old.invariant.same _
          (c.in_ok-is_verified_value.ensures ∙ ap (is_verified_value t (is_verified t)) c.binding_at-value.ensures) c.if-not-branch.false;
    }
