use Rattle.std.proofs.Common.{ap, sym, ◌∙◌, map, take}
use Rattle.ir_event.specs.Modules.{module_in}
use Rattle.dialects_int.specs.Folds.{known_of}
use Rattle.patterns_base.specs.Looks.{is_verified}
use Rattle.user_patterns_check.specs.Contents.{Content}
use Rattle.user_patterns_data.specs.Fitting.{content_with}
use Rattle.user_patterns_data.specs.Shapes.{pattern_model}
use Rattle.user_patterns_apply.specs.Types.{types_in}
use Rattle.user_patterns_apply.proofs.NumbersAt.{all_numbers, no_numbers}
use Rattle.user_patterns_apply.proofs.pattern_numbers.numbers_given.Goals as goal

pub returns-then-branch : goal.returns-then-branch
returns-then-branch c =
    let w = c.args.world.now in
    let m = module_in w in
    let p = pattern_model c.args.pattern.now in
    all_numbers m.tree (is_verified m.tree) m.next p c.args.most c.args.values.now (types_in w.ctx c.args.types.now)
    c.first_steps.result.now
    (c.first_steps.ensures ∙ ap (take c.args.most) (c.deref-2.ensures.value ∙ c.in_ok-steps.ensures ∙ ap (λ ks. Content.given (content_with ks p)) (c.deref.ensures.value ∙ c.in_ok-value_types.ensures)))
    (map known_of c.in_ok-env.env.items) c.in_ok-env.ensures
    (map known_of c.run.new.env.items) c.in_ok-run.field-0 c.in_ok-run.ensures c.if-branch.true

pub returns : goal.returns
returns c =
    let w = c.args.world.now in
    let m = module_in w in
    let p = pattern_model c.args.pattern.now in
    ap (map known_of) c.new.ensures.items
    ∙ no_numbers m.tree (is_verified m.tree) m.next p c.args.most c.args.values.now (types_in w.ctx c.args.types.now)
    c.first_steps.result.now
    (c.first_steps.ensures ∙ ap (take c.args.most) (c.deref-2.ensures.value ∙ c.in_ok-steps.ensures ∙ ap (λ ks. Content.given (content_with ks p)) (c.deref.ensures.value ∙ c.in_ok-value_types.ensures)))
    (map known_of c.in_ok-env.env.items) c.in_ok-env.ensures
    (map known_of c.run.new.env.items) c.in_ok-run.field-0 c.in_ok-run.ensures c.if-branch.false
