use Rattle.std.proofs.Common.{ap, sym, ◌∙◌}
use Rattle.std.specs.Prelude.{option_map}
use Rattle.std.specs.Result.{result_err, result_ok}
use Rattle.ir_event.specs.Modules.{module_in}
use Rattle.patterns_base.specs.Looks.{is_verified}
use Rattle.user_patterns_data.specs.Shapes.{pattern_model}
use Rattle.user_patterns_apply.specs.Mismatches.{values_tests}
use Rattle.user_patterns_apply.proofs.Ordered.{not_matched}
use Rattle.user_patterns_apply.proofs.Planned.{tests_same}
use Rattle.user_patterns_apply.proofs.Tested.{matched_passes, matched_stops}
use Rattle.user_patterns_apply.proofs.plan.plan.Goals as goal

pub returns-in-Err-clause-plan : goal.returns-in-Err-clause-plan
returns-in-Err-clause-plan c =
    let m = module_in c.args.world.now in
    not_matched m.tree (is_verified m.tree) m.next (pattern_model c.args.pattern.now) c.args.op (ap (λ r. option_map (λ v. v.items) (result_ok r)) (sym c.in-Err.is) ∙ c.in_ok-values.ensures.values)

pub returns-in-Err-clause-tests : goal.returns-in-Err-clause-tests
returns-in-Err-clause-tests c =
    let m = module_in c.args.world.now in
    matched_stops m.tree (is_verified m.tree) m.next (pattern_model c.args.pattern.now) c.args.op c.in-Err.mismatch (ap (λ r. result_err r) (sym c.in-Err.is) ∙ c.in_ok-values.ensures.tests)

pub returns-in-Ok-clause-tests : goal.returns-in-Ok-clause-tests
returns-in-Ok-clause-tests c =
    let m = module_in c.args.world.now in
    tests_same c.plan_at.result (λ r. result_err r) _ _
    (ap (values_tests m.tree (is_verified m.tree) m.next (pattern_model c.args.pattern.now)) c.deref.ensures.value
    ∙ matched_passes m.tree (is_verified m.tree) m.next (pattern_model c.args.pattern.now) c.args.op c.in-Ok.values.items
    (ap (λ r. result_err r) (sym c.in-Ok.is) ∙ c.in_ok-values.ensures.tests) (ap (λ r. option_map (λ v. v.items) (result_ok r)) (sym c.in-Ok.is) ∙ c.in_ok-values.ensures.values))
    c.plan_at.ensures.tests
