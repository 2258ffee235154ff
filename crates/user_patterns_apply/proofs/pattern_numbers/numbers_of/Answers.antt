use Rattle.std.proofs.Common.{◌≡◌, ap, subst, sym, ◌∙◌, List, map}
use Rattle.std.specs.Prelude.{IfOk, Some, option_map}
use Rattle.std.specs.Result.{result_ok}
use Rattle.ir_event.specs.Modules.{module_in}
use Rattle.dialects_int.specs.Folds.{known_of}
use Rattle.patterns_base.specs.Looks.{is_verified}
use Rattle.user_patterns_check.specs.Outcomes.{Outcome}
use Rattle.user_patterns_data.specs.Shapes.{pattern_model}
use Rattle.user_patterns_apply.specs.Types.{types_in}
use Rattle.user_patterns_apply.proofs.NumbersAt.{computed, untyped}
use Rattle.user_patterns_apply.proofs.pattern_numbers.numbers_of.Goals as goal

pub returns-in-Ok : goal.returns-in-Ok
returns-in-Ok c =
    let w = c.args.world.now in
    let m = module_in w in
    let p = pattern_model c.args.pattern.now in
    subst (λ (x : List Outcome). IfOk c.numbers_given.result (λ env. map known_of env.items ≡ x))
    (computed m.tree (is_verified m.tree) m.next p c.args.most c.args.values.now _ c.args.op c.requires
    (ap (λ ts. Some (types_in w.ctx ts)) c.deref.ensures.value ∙ ap (λ r. option_map (λ ts. types_in w.ctx ts.items) (result_ok r)) (sym c.in-Ok.is) ∙ c.in_ok-types.ensures.types))
    c.numbers_given.ensures

pub returns-in-Err : goal.returns-in-Err
returns-in-Err c =
    let w = c.args.world.now in
    let m = module_in w in
    let p = pattern_model c.args.pattern.now in
    ap (map known_of) c.new.ensures.items
    ∙ untyped m.tree (is_verified m.tree) m.next p c.args.most c.args.values.now c.args.op c.requires
    (ap (λ r. option_map (λ ts. types_in w.ctx ts.items) (result_ok r)) (sym c.in-Err.is) ∙ c.in_ok-types.ensures.types)
