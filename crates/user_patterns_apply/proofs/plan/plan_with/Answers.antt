use Rattle.std.proofs.Common.{ap, refl, map, sym, ◌∙◌}
use Rattle.std.specs.Prelude.{is_none, option_map}
use Rattle.std.specs.Result.{result_err, result_ok}
use Rattle.ir_event.specs.Modules.{module_in}
use Rattle.dialects_int.specs.Folds.{known_of}
use Rattle.patterns_base.specs.Looks.{is_verified}
use Rattle.user_patterns_check.specs.Contents.{Content}
use Rattle.user_patterns_data.specs.Fitting.{content_with}
use Rattle.user_patterns_data.specs.Planning.{planned_from}
use Rattle.user_patterns_data.specs.Shapes.{pattern_model}
use Rattle.user_patterns_apply.specs.Types.{types_in}
use Rattle.user_patterns_apply.specs.Built.{plan_in}
use Rattle.user_patterns_apply.specs.Mismatches.{planned_tests, steps_tests}
use Rattle.user_patterns_apply.proofs.Tested.{fits_stops, known_by, known_stops, numeric_stops, ran_is, steps_pass, steps_stop}
use Rattle.user_patterns_apply.proofs.Planned.{answers_same, tests_same, not_computed, not_fitting, not_known, not_numeric, plans}
use Rattle.user_patterns_apply.proofs.plan.plan_with.Goals as goal

pub returns-then-not-all_numeric-clause-plan : goal.returns-then-not-all_numeric-clause-plan
returns-then-not-all_numeric-clause-plan c =
    let m = module_in c.args.world.now in
    not_numeric m.tree (is_verified m.tree) m.next (pattern_model c.args.pattern.now) c.args.values.now (types_in c.args.world.now.ctx c.args.types.now) c.all_numeric.result c.all_numeric.ensures c.if-not-all_numeric.true

pub returns-then-not-all_numeric-clause-tests : goal.returns-then-not-all_numeric-clause-tests
returns-then-not-all_numeric-clause-tests c =
    let m = module_in c.args.world.now in
    numeric_stops m.tree (is_verified m.tree) m.next (pattern_model c.args.pattern.now) c.args.values.now (types_in c.args.world.now.ctx c.args.types.now) c.args.value_types.now c.requires.value_types c.all_numeric.result c.all_numeric.ensures c.if-not-all_numeric.true

pub returns-then-not-is_applicable-clause-plan : goal.returns-then-not-is_applicable-clause-plan
returns-then-not-is_applicable-clause-plan c =
    let w = c.args.world.now in
    let m = module_in w in
    let p = pattern_model c.args.pattern.now in
    let ts = types_in w.ctx c.args.types.now in
    not_fitting m.tree (is_verified m.tree) m.next p c.args.values.now ts c.args.value_types.now c.requires.value_types c.is_applicable.result c.is_applicable.ensures c.if-not-is_applicable.true

pub returns-in-Some-clause-plan : goal.returns-in-Some-clause-plan
returns-in-Some-clause-plan c =
    let w = c.args.world.now in
    let m = module_in w in
    let p = pattern_model c.args.pattern.now in
    let ts = types_in w.ctx c.args.types.now in
    not_known m.tree (is_verified m.tree) m.next p c.args.values.now ts (is_none c.in_ok-mismatch.field-0) (known_by m.tree (is_verified m.tree) m.next p c.args.values.now _ c.in_ok-mismatch.ensures) (ap is_none c.in-Some.is)

pub returns-in-Some-2-clause-plan : goal.returns-in-Some-2-clause-plan
returns-in-Some-2-clause-plan c =
    let w = c.args.world.now in
    let m = module_in w in
    let p = pattern_model c.args.pattern.now in
    let ts = types_in w.ctx c.args.types.now in
    not_computed m.tree (is_verified m.tree) m.next p c.args.values.now ts c.args.value_types.now c.requires.value_types (map known_of c.in_ok-env.env.items) c.in_ok-env.ensures (map known_of c.run_given.new.env.items) (is_none c.in_ok-mismatch-2.field-0) c.in_ok-mismatch-2.ensures.stands (ap is_none c.in-Some-2.is)

pub returns-clause-plan : goal.returns-clause-plan
returns-clause-plan c =
    let w = c.args.world.now in
    let m = module_in w in
    let p = pattern_model c.args.pattern.now in
    let ts = types_in w.ctx c.args.types.now in
    answers_same c.build.result (λ r. option_map (plan_in w.ctx m.next) (result_ok r)) _ _
    (plans m.tree (is_verified m.tree) m.next p c.args.values.now ts c.all_numeric.result c.all_numeric.ensures c.if-not-all_numeric.false c.args.value_types.now c.requires.value_types c.is_applicable.result c.is_applicable.ensures c.if-not-is_applicable.false (is_none c.in_ok-mismatch.field-0) (known_by m.tree (is_verified m.tree) m.next p c.args.values.now _ c.in_ok-mismatch.ensures) (ap is_none c.in_default.is)
    (Content.given (content_with c.args.value_types.now p)) refl (map known_of c.in_ok-env.env.items) c.in_ok-env.ensures (map known_of c.run_given.new.env.items) (is_none c.in_ok-mismatch-2.field-0) c.in_ok-mismatch-2.ensures.stands (ap is_none c.in_default-2.is)
    _ (ap (λ z. planned_from m.tree (is_verified m.tree) m.next p c.args.values.now ts (map known_of z)) c.deref.ensures.value))
    c.build.ensures.plan

pub returns-then-not-is_applicable-clause-tests : goal.returns-then-not-is_applicable-clause-tests
returns-then-not-is_applicable-clause-tests c =
    let w = c.args.world.now in
    let m = module_in w in
    let p = pattern_model c.args.pattern.now in
    let ts = types_in w.ctx c.args.types.now in
    fits_stops m.tree (is_verified m.tree) m.next p c.args.values.now ts c.args.value_types.now c.requires.value_types c.all_numeric.result c.all_numeric.ensures c.if-not-all_numeric.false c.is_applicable.result c.is_applicable.ensures c.if-not-is_applicable.true

pub returns-in-Some-clause-tests : goal.returns-in-Some-clause-tests
returns-in-Some-clause-tests c =
    let w = c.args.world.now in
    let m = module_in w in
    let p = pattern_model c.args.pattern.now in
    let ts = types_in w.ctx c.args.types.now in
    known_stops m.tree (is_verified m.tree) m.next p c.args.values.now ts c.args.value_types.now c.requires.value_types c.all_numeric.result c.all_numeric.ensures c.if-not-all_numeric.false c.is_applicable.result c.is_applicable.ensures c.if-not-is_applicable.false c.in-Some.mismatch (sym c.in-Some.is ∙ c.in_ok-mismatch.ensures)

pub returns-in-Some-2-clause-tests : goal.returns-in-Some-2-clause-tests
returns-in-Some-2-clause-tests c =
    let w = c.args.world.now in
    let m = module_in w in
    let p = pattern_model c.args.pattern.now in
    let ts = types_in w.ctx c.args.types.now in
    steps_stop m.tree (is_verified m.tree) m.next p c.args.values.now ts c.args.value_types.now c.requires.value_types c.all_numeric.result c.all_numeric.ensures c.if-not-all_numeric.false c.is_applicable.result c.is_applicable.ensures c.if-not-is_applicable.false (sym c.in_default.is ∙ c.in_ok-mismatch.ensures)
    c.in-Some-2.mismatch (sym c.in-Some-2.is ∙ c.in_ok-mismatch-2.ensures.tests ∙ ap (steps_tests 0 (Content.given (content_with c.args.value_types.now p))) c.in_ok-env.ensures)

pub returns-clause-tests : goal.returns-clause-tests
returns-clause-tests c =
    let w = c.args.world.now in
    let m = module_in w in
    let p = pattern_model c.args.pattern.now in
    let ts = types_in w.ctx c.args.types.now in
    tests_same c.build.result (λ r. result_err r) _ _
    (ap (λ z. planned_tests m.tree (is_verified m.tree) m.next p c.args.values.now ts (map known_of z)) c.deref.ensures.value
    ∙ steps_pass m.tree (is_verified m.tree) m.next p c.args.values.now ts c.args.value_types.now c.requires.value_types c.all_numeric.result c.all_numeric.ensures c.if-not-all_numeric.false c.is_applicable.result c.is_applicable.ensures c.if-not-is_applicable.false (sym c.in_default.is ∙ c.in_ok-mismatch.ensures)
    (sym c.in_default-2.is ∙ c.in_ok-mismatch-2.ensures.tests ∙ ap (steps_tests 0 (Content.given (content_with c.args.value_types.now p))) c.in_ok-env.ensures) (map known_of c.run_given.new.env.items)
    (ran_is (Content.given (content_with c.args.value_types.now p)) (map known_of c.in_ok-env.env.items) _ c.in_ok-env.ensures (map known_of c.run_given.new.env.items) (is_none c.in_ok-mismatch-2.field-0) c.in_ok-mismatch-2.ensures.stands (ap is_none c.in_default-2.is)))
    c.build.ensures.tests
