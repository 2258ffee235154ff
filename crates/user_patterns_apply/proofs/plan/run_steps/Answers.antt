use Rattle.std.proofs.Common.{false, map, refl, subst, ◌∙◌, arith}
use Rattle.dialects_int.specs.Folds.{known_of}
use Rattle.user_patterns_check.specs.Checks.{Stands}
use Rattle.user_patterns_apply.proofs.Planned.{not_ran, ran}
use Rattle.user_patterns_apply.proofs.Tested.{length_next, next_not_ran, next_ran, next_tested, next_undefined}
use Rattle.user_patterns_apply.proofs.plan.run_steps.Goals as goal

pub returns-then-not-branch-clause-stands : goal.returns-then-not-branch-clause-stands
returns-then-not-branch-clause-stands c =
    let env = map known_of c.steps.env.items in
    subst (λ z. Stands z (map known_of c.run.new.env.items) false)
    (next_not_ran c.steps.rest.now _ c.in-len1-up.len_at_least env env (not_ran _ _ _ c.in_ok-run.ensures c.if-not-branch.true) ∙ c.steps.invariant.ran) refl

pub returns-then-not-branch-clause-tests : goal.returns-then-not-branch-clause-tests
returns-then-not-branch-clause-tests c =
    let env = map known_of c.steps.env.items in
    next_undefined c.steps.rest.now _ c.in-len1-up.len_at_least env env c.steps.index (not_ran _ _ _ c.in_ok-run.ensures c.if-not-branch.true) ∙ c.steps.invariant.tests

pub steps-preserved : goal.steps-preserved
steps-preserved c =
    let env = map known_of c.steps.env.items in
    let new = map known_of c.run.new.env.items in record {
      ran = next_ran c.steps.rest.now _ c.in-len1-up.len_at_least env new (ran _ _ _ c.in_ok-run.ensures c.if-not-branch.false) ∙ c.steps.invariant.ran;
      tests = next_tested c.steps.rest.now _ c.in-len1-up.len_at_least env new c.steps.index (ran _ _ _ c.in_ok-run.ensures c.if-not-branch.false) ∙ c.steps.invariant.tests;
      counted = omega (arith, length_next c.steps.rest.now c.in-len1-up.len_at_least, c.steps.invariant.counted);
    }
