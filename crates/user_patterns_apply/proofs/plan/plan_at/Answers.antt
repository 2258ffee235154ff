use Rattle.std.proofs.Common.{ap, sym, ◌∙◌}
use Rattle.std.specs.Prelude.{is_none, option_map}
use Rattle.std.specs.Result.{result_err, result_ok}
use Rattle.ir_event.specs.Modules.{module_in}
use Rattle.patterns_base.specs.Looks.{is_verified}
use Rattle.user_patterns_data.specs.Matching.{placed}
use Rattle.user_patterns_data.specs.Planning.{old_place, planned_by}
use Rattle.user_patterns_data.specs.Shapes.{pattern_model}
use Rattle.user_patterns_apply.specs.Built.{plan_in}
use Rattle.user_patterns_apply.specs.Mismatches.{constants_tests, fitting_tests, verified_tests}
use Rattle.user_patterns_apply.specs.Types.{types_in}
use Rattle.user_patterns_apply.proofs.Planned.{answers_same, tests_same}
use Rattle.user_patterns_apply.proofs.Tested.{building_stops, constants_by, constants_stop, typed_pass, typed_stop, verified_by, verified_stop}
use Rattle.user_patterns_apply.proofs.Ordered.{makes, not_verified, not_constants, not_typed}
use Rattle.user_patterns_apply.proofs.plan.plan_at.Goals as goal

pub returns-in-Some-clause-plan : goal.returns-in-Some-clause-plan
returns-in-Some-clause-plan c =
    let m = module_in c.args.world.now in
    not_constants m.tree (is_verified m.tree) m.next (pattern_model c.args.pattern.now) c.args.op c.args.values.now c.requires.matched
    (is_none c.test_constants.result) (constants_by m.tree (is_verified m.tree) m.next (pattern_model c.args.pattern.now) (pattern_model c.args.pattern.now).constants c.args.values.now c.test_constants.result (c.test_constants.ensures ∙ λ i. constants_tests m.tree (c.deref.ensures.value i) c.args.values.now)) (ap is_none c.in-Some.is)

pub returns-in-Some-2-clause-plan : goal.returns-in-Some-2-clause-plan
returns-in-Some-2-clause-plan c =
    let m = module_in c.args.world.now in
    not_verified m.tree (is_verified m.tree) m.next (pattern_model c.args.pattern.now) c.args.op c.args.values.now c.requires.matched
    (is_none c.in_ok-mismatch.field-0) (verified_by m.tree (is_verified m.tree) m.next (pattern_model c.args.pattern.now) (placed (old_place (pattern_model c.args.pattern.now)) (pattern_model c.args.pattern.now).old) c.args.values.now c.in_ok-mismatch.field-0 (c.in_ok-mismatch.ensures ∙ λ i. verified_tests m.tree (is_verified m.tree) (placed (c.old_begins.ensures.place i) (c.deref-2.ensures.value i)) c.args.values.now)) (ap is_none c.in-Some-2.is)

pub returns-in-Err-clause-plan : goal.returns-in-Err-clause-plan
returns-in-Err-clause-plan c =
    let w = c.args.world.now in
    let m = module_in w in
    let p = pattern_model c.args.pattern.now in
    not_typed m.tree (is_verified m.tree) m.next p c.args.op c.args.values.now c.requires.matched
    (ap (λ r. option_map (λ ts. types_in w.ctx ts.items) (result_ok r)) (sym c.in-Err.is) ∙ c.in_ok-types.ensures.types)

pub returns-in-Ok-clause-plan : goal.returns-in-Ok-clause-plan
returns-in-Ok-clause-plan c =
    let w = c.args.world.now in
    let m = module_in w in
    let p = pattern_model c.args.pattern.now in
    answers_same c.plan_by.result (λ r. option_map (plan_in w.ctx m.next) (result_ok r)) _ _
    (makes m.tree (is_verified m.tree) m.next p c.args.op c.args.values.now c.requires.matched
    c.can_build.result c.can_build.ensures c.if-not-can_build.false
    (is_none c.in_ok-mismatch.field-0) (verified_by m.tree (is_verified m.tree) m.next (pattern_model c.args.pattern.now) (placed (old_place (pattern_model c.args.pattern.now)) (pattern_model c.args.pattern.now).old) c.args.values.now c.in_ok-mismatch.field-0 (c.in_ok-mismatch.ensures ∙ λ i. verified_tests m.tree (is_verified m.tree) (placed (c.old_begins.ensures.place i) (c.deref-2.ensures.value i)) c.args.values.now)) (ap is_none c.in_default-2.is)
    (types_in w.ctx c.in-Ok.types.items) (ap (λ r. option_map (λ ts. types_in w.ctx ts.items) (result_ok r)) (sym c.in-Ok.is) ∙ c.in_ok-types.ensures.types)
    _ (ap (λ ts. planned_by m.tree (is_verified m.tree) m.next p c.args.values.now (types_in w.ctx ts)) c.deref-in-Ok.ensures.value))
    c.plan_by.ensures.plan

pub returns-in-Some-clause-tests : goal.returns-in-Some-clause-tests
returns-in-Some-clause-tests c =
    let w = c.args.world.now in
    let m = module_in w in
    let p = pattern_model c.args.pattern.now in
    let constants = c.test_constants.ensures ∙ λ i. constants_tests m.tree (c.deref.ensures.value i) c.args.values.now in
    constants_stop m.tree (is_verified m.tree) m.next p c.args.values.now c.in-Some.mismatch (sym c.in-Some.is ∙ constants)

pub returns-then-not-can_build-clause-tests : goal.returns-then-not-can_build-clause-tests
returns-then-not-can_build-clause-tests c =
    let w = c.args.world.now in
    let m = module_in w in
    let p = pattern_model c.args.pattern.now in
    let constants = c.test_constants.ensures ∙ λ i. constants_tests m.tree (c.deref.ensures.value i) c.args.values.now in
    building_stops m.tree (is_verified m.tree) m.next p c.args.values.now (sym c.in_default.is ∙ constants) c.can_build.result c.can_build.ensures c.if-not-can_build.true

pub returns-in-Some-2-clause-tests : goal.returns-in-Some-2-clause-tests
returns-in-Some-2-clause-tests c =
    let w = c.args.world.now in
    let m = module_in w in
    let p = pattern_model c.args.pattern.now in
    let constants = c.test_constants.ensures ∙ λ i. constants_tests m.tree (c.deref.ensures.value i) c.args.values.now in
    let verified = c.in_ok-mismatch.ensures ∙ λ i. verified_tests m.tree (is_verified m.tree) (placed (c.old_begins.ensures.place i) (c.deref-2.ensures.value i)) c.args.values.now in
    verified_stop m.tree (is_verified m.tree) m.next p c.args.values.now (sym c.in_default.is ∙ constants) c.can_build.result c.can_build.ensures c.if-not-can_build.false c.in-Some-2.mismatch (sym c.in-Some-2.is ∙ verified)

pub returns-in-Err-clause-tests : goal.returns-in-Err-clause-tests
returns-in-Err-clause-tests c =
    let w = c.args.world.now in
    let m = module_in w in
    let p = pattern_model c.args.pattern.now in
    let constants = c.test_constants.ensures ∙ λ i. constants_tests m.tree (c.deref.ensures.value i) c.args.values.now in
    let verified = c.in_ok-mismatch.ensures ∙ λ i. verified_tests m.tree (is_verified m.tree) (placed (c.old_begins.ensures.place i) (c.deref-2.ensures.value i)) c.args.values.now in
    typed_stop m.tree (is_verified m.tree) m.next p c.args.values.now (sym c.in_default.is ∙ constants) c.can_build.result c.can_build.ensures c.if-not-can_build.false (sym c.in_default-2.is ∙ verified) c.in-Err.mismatch
    (ap (λ r. result_err r) (sym c.in-Err.is) ∙ c.in_ok-types.ensures.tests)

pub returns-in-Ok-clause-tests : goal.returns-in-Ok-clause-tests
returns-in-Ok-clause-tests c =
    let w = c.args.world.now in
    let m = module_in w in
    let p = pattern_model c.args.pattern.now in
    let constants = c.test_constants.ensures ∙ λ i. constants_tests m.tree (c.deref.ensures.value i) c.args.values.now in
    let verified = c.in_ok-mismatch.ensures ∙ λ i. verified_tests m.tree (is_verified m.tree) (placed (c.old_begins.ensures.place i) (c.deref-2.ensures.value i)) c.args.values.now in
    tests_same c.plan_by.result (λ r. result_err r) _ _
    (ap (λ ts. fitting_tests m.tree (is_verified m.tree) m.next p c.args.values.now (types_in w.ctx ts)) c.deref-in-Ok.ensures.value
    ∙ typed_pass m.tree (is_verified m.tree) m.next p c.args.values.now (sym c.in_default.is ∙ constants) c.can_build.result c.can_build.ensures c.if-not-can_build.false (sym c.in_default-2.is ∙ verified)
    (ap (λ r. result_err r) (sym c.in-Ok.is) ∙ c.in_ok-types.ensures.tests) (types_in w.ctx c.in-Ok.types.items) (ap (λ r. option_map (λ ts. types_in w.ctx ts.items) (result_ok r)) (sym c.in-Ok.is) ∙ c.in_ok-types.ensures.types))
    c.plan_by.ensures.tests
