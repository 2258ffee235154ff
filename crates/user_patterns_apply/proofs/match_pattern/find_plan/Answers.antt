use Rattle.std.proofs.Common.{ap, sym, ◌∙◌}
use Rattle.std.specs.Prelude.{option_map}
use Rattle.std.specs.Result.{result_err, result_ok}
use Rattle.ir_event.specs.Modules.{module_in}
use Rattle.user_patterns_data.specs.Shapes.{pattern_model}
use Rattle.user_patterns_apply.specs.Built.{plan_in}
use Rattle.user_patterns_apply.proofs.Found.{no_plan, no_point, plan_fails, point_fails, some_plan}
use Rattle.user_patterns_apply.proofs.match_pattern.find_plan.Goals as goal

pub returns-in-Err-clause-edits : goal.returns-in-Err-clause-edits
returns-in-Err-clause-edits c =
    let w = c.args.world.now in
    no_plan (pattern_model c.args.pattern.now) (module_in w) c.args.op (ap (λ r. option_map (plan_in w.ctx (module_in w).next) (result_ok r)) (sym c.in-Err.is) ∙ c.in_ok-built.ensures.plan)

pub returns-in-Err-clause-tests : goal.returns-in-Err-clause-tests
returns-in-Err-clause-tests c =
    plan_fails (pattern_model c.args.pattern.now) (module_in c.args.world.now) c.args.op c.in-Err.mismatch (ap (λ r. result_err r) (sym c.in-Err.is) ∙ c.in_ok-built.ensures.tests)

pub returns-in-Ok-find_point-clause-edits : goal.returns-in-Ok-find_point-clause-edits
returns-in-Ok-find_point-clause-edits c =
    let w = c.args.world.now in
    some_plan (pattern_model c.args.pattern.now) (module_in w) c.args.op w.ctx c.in-Ok-find_point.point (ap (λ r. result_ok r) (sym c.in-Ok-find_point.is) ∙ c.find_point.ensures.point) c.in-Ok.built
    (ap (λ r. option_map (plan_in w.ctx (module_in w).next) (result_ok r)) (sym c.in-Ok.is) ∙ c.in_ok-built.ensures.plan)

pub returns-in-Ok-find_point-clause-tests : goal.returns-in-Ok-find_point-clause-tests
returns-in-Ok-find_point-clause-tests c =
    point_fails (pattern_model c.args.pattern.now) (module_in c.args.world.now) c.args.op (ap (λ r. result_err r) (sym c.in-Ok.is) ∙ c.in_ok-built.ensures.tests) _ (ap (λ r. result_err r) (sym c.in-Ok-find_point.is) ∙ c.find_point.ensures.tests)

pub returns-in-Err-find_point-clause-edits : goal.returns-in-Err-find_point-clause-edits
returns-in-Err-find_point-clause-edits c =
    no_point (pattern_model c.args.pattern.now) (module_in c.args.world.now) c.args.op (ap (λ r. result_ok r) (sym c.in-Err-find_point.is) ∙ c.find_point.ensures.point)

pub returns-in-Err-find_point-clause-tests : goal.returns-in-Err-find_point-clause-tests
returns-in-Err-find_point-clause-tests c =
    point_fails (pattern_model c.args.pattern.now) (module_in c.args.world.now) c.args.op (ap (λ r. result_err r) (sym c.in-Ok.is) ∙ c.in_ok-built.ensures.tests) _ (ap (λ r. result_err r) (sym c.in-Err-find_point.is) ∙ c.find_point.ensures.tests)
